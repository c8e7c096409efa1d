-- Worked examples of the machine: a session whole, with 452 4.3.1 at the end of its data, and with
-- a send that fails.
use Rattle.std.specs.Prelude.{◌≡◌, ℕ, List, [], ◌∷◌, ◌++◌, None, Some, true, false, drop, length, map, unwrap_or, codes, refl}
use Rattle.mail_base.specs.Configs.{initial}
use Rattle.mail_base.specs.Names.{digits}
use Rattle.mail_base.specs.Limits.{most_command, most_domain, most_headers, most_local_part, most_message, most_path, message_limit, most_recipients, most_rows}
use Rattle.addr_tokens.specs.Reader.{cut}
use Rattle.addr_tokens.specs.Scans.{most_tokens}
use Rattle.link_edge.specs.declared.event.Event.TheVariants.{Opens, Brings, Stops}
use Rattle.smtp_lines.specs.declared.line.Line.{Line}
use Rattle.smtp_lines.specs.declared.line.Line.TheVariants.{Data, DataEnd}
use Rattle.smtp_receive.specs.Mails.{message_of}
use Rattle.smtp_receive.specs.Dialogue.{Heard, Exchange, Answer, Greets, Grants, TakesLeave, Gives, StaysSilent, answer_to}
use Rattle.smtp_receive.specs.Replies.{shown_host}
use Rattle.smtp_receive.specs.Judging.{Said, Unasked}
use Rattle.smtp_receive.proofs.Examples.{of_recipient, of_sender, peer, helo, mail, rcpt, data_line, subject, body, quit, message, begun, given, granted, taken as whole}
use Rattle.spool_store.specs.Entries.{Table}
use Rattle.queue_table.specs.Commands.{after}
use Rattle.mail_core.specs.Sites.{Site}
use Rattle.mail_core.specs.Effects.{Effect, Takes, Ticks, Does, Sends, HangsUp}
use Rattle.mail_core.specs.Guests.{Guest, newcomer}
use Rattle.mail_core.specs.States.{Finished, By, State, Step, followed}
use Rattle.mail_made.specs.Moments.{last_moment}
use Rattle.mail_core.specs.Machine.{id_by, Choice, Normal, OutOfMemory, Replied, GoesOn, Leaves, Turn, moment_by, most_guests, run}
use Rattle.mail_core.specs.Plans.{OfFloor, Serve}
use Rattle.queue_run.specs.Deeds.{Asks}
use Rattle.mail_made.specs.Messages.{is_spent, last_id}
use Rattle.mail_core.specs.Messages.{accept_of, start}
use Rattle.mail_core.proofs.ExampleLemmas.{first_state, Comes, Talks, by_said, comes_said, heard_by, effects_by, in_one, all_left, answers_of, are_within, comes_more, comes_none, comes_short, grants_by, input, lacked, line_at, one, piece, piece_turn, plain, run_first, so_far, table_by, talks_last, talks_line, talks_within, way_by}

abbrev site : Site
site = record { host = codes "localhost"; dirs = codes "/q" ∷ []; config = initial; maps = record { maps = []; hosts = [] }; plan = Serve None }

-- the answer to the latest line
abbrev latest_answer : List Exchange → Answer
latest_answer [] = StaysSilent
latest_answer (e ∷ before) = unwrap_or e.answer StaysSilent

-- the answers to MAIL and RCPT
abbrev pub sender_ok : Answer
sender_ok = latest_answer (drop 1 given)

-- the answer to its RCPT
abbrev pub recipient_ok : Answer
recipient_ok = latest_answer given

-- all that the session sends
abbrev sent : List ℕ
sent = codes "HELO c.example\r\nMAIL FROM:<bob@c.example>\r\nRCPT TO:<ann@mx.example>\r\nDATA\r\nSubject: hi\r\n\r\nhello\r\n.\r\nQUIT\r\n"

abbrev guest : Guest
guest = record { number = 1; config = initial; peer = peer; received = sent; heard = [] }

abbrev kept : Choice
kept = Normal Unasked in_one true

-- the same of MAIL and RCPT
abbrev kept_mail : Choice
kept_mail = Normal of_sender in_one true

abbrev kept_rcpt : Choice
kept_rcpt = Normal of_recipient in_one true

abbrev hello : List Effect
hello = Sends 1 (codes "250 localhost Hello\r\n") true ∷ []

abbrev given_effects : List Effect
given_effects = hello ++ Sends 1 (codes "250 2.1.0 Sender ok\r\n") true ∷ Sends 1 (codes "250 2.1.5 Recipient ok\r\n") true ∷ Sends 1 (codes "354 Enter mail, end with " ++ 34 ∷ 46 ∷ 34 ∷ codes " on a line by itself\r\n") true ∷ []

-- up to the first line of the message
begins : Comes site 5 start guest (kept ∷ kept_mail ∷ kept_rcpt ∷ kept ∷ kept ∷ []) start begun granted given_effects GoesOn
unfolding most_recipients most_rows cut most_tokens most_command most_message most_path most_local_part most_domain shown_host last_id
begins =
    let one = comes_more site 5 start guest [] start [] [] [] helo (comes_none site 5 start guest [] refl) refl Greets true refl refl in
    let two = comes_said site 5 start guest _ start _ _ _ mail one refl of_sender sender_ok true refl refl in
    let three = comes_said site 5 start guest _ start _ _ _ rcpt two refl of_recipient recipient_ok true refl refl in
    let four = comes_more site 5 start guest _ start _ _ _ data_line three refl Grants true refl refl in
    comes_more site 5 start guest _ start _ _ _ subject four refl StaysSilent true refl refl

-- the message, with its end
abbrev pub given_lines : List Heard
given_lines = begun ++ input (Data []) false None ∷ input body false None ∷ []

abbrev data_choices : List Choice
data_choices = kept ∷ kept_mail ∷ kept_rcpt ∷ kept ∷ kept ∷ kept ∷ kept ∷ []

up_to_the_dot : Comes site 5 start guest data_choices start given_lines whole given_effects GoesOn
unfolding most_recipients most_rows cut most_tokens most_command most_message most_path most_local_part most_domain shown_host last_id
up_to_the_dot =
    let six = comes_more site 5 start guest _ start _ _ _ (Data []) begins refl StaysSilent true refl refl in
    comes_more site 5 start guest _ start _ _ _ body six refl StaysSilent true refl refl

abbrev stored_now : Table
stored_now = after start (accept_of site 5 (message_of message) in_one)

abbrev closing : List Effect
closing = Sends 1 (codes "221 2.0.0 localhost closing connection\r\n") true ∷ HangsUp 1 ∷ []

-- the whole session, in one piece
plain_piece : Comes site 5 start guest (data_choices ++ kept ∷ kept ∷ []) stored_now (given_lines ++ input DataEnd false (Some 1) ∷ input quit false None ∷ []) (plain quit TakesLeave ∷ plain DataEnd (Gives message) ∷ whole)
    (given_effects ++ Does (Asks (accept_of site 5 (message_of message) in_one)) ∷ Sends 1 (codes "250 2.0.0 w000000000001 Message accepted for delivery\r\n") true ∷ closing) Leaves
unfolding most_recipients most_rows cut most_tokens digits most_command most_message most_headers most_path most_local_part most_domain shown_host last_id
plain_piece =
    let dot = comes_more site 5 start guest _ start _ _ _ DataEnd up_to_the_dot refl (Gives message) true refl refl in
    comes_more site 5 start guest _ stored_now _ _ _ quit dot refl TakesLeave true refl refl

abbrev opens : Turn
opens = record { event = Opens 1 peer; origin = OfFloor 5; choices = Replied true }

abbrev stops : Turn
stops = record { event = Stops; origin = OfFloor 5; choices = None }

-- the session is greeted
abbrev open_state : State
open_state = record { table = start; guests = newcomer initial 1 peer ∷ []; seats = []; list = []; latest = 5; stopping = false; over = None }

abbrev greeting : List Effect
greeting = Takes (Opens 1 peer) ∷ Ticks 5 ∷ Sends 1 (codes "220 localhost ESMTP ready\r\n") true ∷ []

abbrev greeted : Step
greeted = record { state = open_state; effects = greeting }

-- it brings all in one piece, and is over
abbrev left_state : Table → State
left_state table = record { table = table; guests = []; seats = []; list = []; latest = 5; stopping = false; over = None }

abbrev brought_in : Table → List Effect → Step
brought_in table effects = record { state = left_state table; effects = Takes (Brings 1 sent) ∷ Ticks 5 ∷ effects }

session_by : (choices : List Choice) (now : Table) (heard : List Heard) (before : List Exchange) (effects : List Effect) (turns : List Turn) (later : Step) → Comes site 5 start guest choices now heard before effects Leaves
    → run site (left_state now) turns ≡ later → run site first_state (opens ∷ piece 1 sent 5 choices ∷ turns) ≡ followed greeted (followed (brought_in now effects) later)
unfolding most_guests last_moment most_domain shown_host
session_by choices now heard before effects turns later c rest =
    run_first site first_state opens (piece 1 sent 5 choices ∷ turns) greeted (followed (brought_in now effects) later) refl
    (run_first site open_state (piece 1 sent 5 choices) turns (brought_in now effects) later
    (piece_turn site open_state 1 (newcomer initial 1 peer) sent 5 choices (so_far site 5 now guest heard c.may effects Leaves) refl refl refl (all_left site 5 start now guest choices heard before effects c))
    rest)

-- the message is in the table before its 250 is sent
plain_session : run site first_state (opens ∷ piece 1 sent 5 (data_choices ++ kept ∷ kept ∷ []) ∷ stops ∷ []) ≡ record {
  state = record { table = stored_now; guests = []; seats = []; list = []; latest = 5; stopping = true; over = Some (By Finished) };
  effects = greeting ++ Takes (Brings 1 sent) ∷ Ticks 5 ∷ (given_effects ++ Does (Asks (accept_of site 5 (message_of message) in_one)) ∷ Sends 1 (codes "250 2.0.0 w000000000001 Message accepted for delivery\r\n") true ∷ closing) ++ Takes Stops ∷ Ticks 5 ∷ [];
}
unfolding last_moment
plain_session =
    session_by _ _ _ _ _ (stops ∷ []) (record { state = record (left_state stored_now) { stopping = true; over = Some (By Finished) }; effects = Takes Stops ∷ Ticks 5 ∷ [] }) plain_piece refl

-- 452 4.3.1 at the dot: nothing is stored, the transaction is over, and the session goes on
lacking_piece : Comes site 5 start guest (data_choices ++ OutOfMemory true ∷ kept ∷ []) start (given_lines ++ input DataEnd true None ∷ input quit false None ∷ []) (plain quit TakesLeave ∷ lacked DataEnd ∷ whole)
    (given_effects ++ Sends 1 (codes "452 4.3.1 Out of memory\r\n") true ∷ closing) Leaves
unfolding most_recipients most_rows cut most_tokens most_command most_message most_path most_local_part most_domain shown_host last_id
lacking_piece =
    let dot = comes_short site 5 start guest _ start _ _ _ DataEnd up_to_the_dot refl true refl in
    comes_more site 5 start guest _ start _ _ _ quit dot refl TakesLeave true refl refl

memory_is_wanting_at_the_dot : run site first_state (opens ∷ piece 1 sent 5 (data_choices ++ OutOfMemory true ∷ kept ∷ []) ∷ []) ≡ record {
  state = record { table = start; guests = []; seats = []; list = []; latest = 5; stopping = false; over = None };
  effects = greeting ++ Takes (Brings 1 sent) ∷ Ticks 5 ∷ given_effects ++ Sends 1 (codes "452 4.3.1 Out of memory\r\n") true ∷ closing;
}
memory_is_wanting_at_the_dot = session_by _ _ _ _ _ [] (record { state = left_state start; effects = [] }) lacking_piece refl

-- the reply to MAIL isn't sent whole: the session is hung up, and the rest of its piece is dropped
lost_piece : Comes site 5 start guest (kept ∷ Normal of_sender in_one false ∷ []) start (input helo false None ∷ heard_by mail of_sender false None ∷ []) (by_said mail of_sender sender_ok ∷ plain helo Greets ∷ [])
    (hello ++ Sends 1 (codes "250 2.1.0 Sender ok\r\n") false ∷ HangsUp 1 ∷ []) Leaves
unfolding most_recipients most_rows cut most_tokens most_command most_message most_path most_local_part most_domain shown_host last_id
lost_piece =
    let one = comes_more site 5 start guest [] start [] [] [] helo (comes_none site 5 start guest [] refl) refl Greets true refl refl in
    comes_said site 5 start guest _ start _ _ _ mail one refl of_sender sender_ok false refl refl

a_send_fails : run site first_state (opens ∷ piece 1 sent 5 (kept ∷ Normal of_sender in_one false ∷ []) ∷ []) ≡ record {
  state = record { table = start; guests = []; seats = []; list = []; latest = 5; stopping = false; over = None };
  effects = greeting ++ Takes (Brings 1 sent) ∷ Ticks 5 ∷ hello ++ Sends 1 (codes "250 2.1.0 Sender ok\r\n") false ∷ HangsUp 1 ∷ [];
}
a_send_fails = session_by _ _ _ _ _ [] (record { state = left_state start; effects = [] }) lost_piece refl

-- ---- byte by byte

same_moment : moment_by 5 5 ≡ 5
unfolding last_moment
same_moment = refl

abbrev Bytes : List ℕ → Table → List Heard → List Exchange → List Effect → Type 0
Bytes bytes table heard before effects = Talks site initial peer 5 5 same_moment (λ event. refl) bytes table heard before effects

abbrev first_effects : List Effect
first_effects = Sends 1 (codes "220 localhost ESMTP ready\r\n") true ∷ []

opening : Bytes [] start [] [] first_effects
unfolding most_guests last_moment most_domain shown_host
opening = record { turns = opens ∷ []; events = refl; done = greeting; is = refl; answers = refl; known = refl }

-- the bytes of a line, and the LF that ends it
line_of : (bytes more : List ℕ) (table : Table) (heard : List Heard) (before : List Exchange) (effects : List Effect) → Bytes bytes table heard before effects → (line : Line) (said : Said) (answer : Answer) → are_within (length heard) (grants_by before) bytes more ≡ true
    → line_at (length heard) ((bytes ++ more) ++ 10 ∷ []) (grants_by before) ≡ Some line → is_spent table in_one ≡ false → answer_to initial peer before said line ≡ answer → way_by site 5 answer true ≡ GoesOn
    → line_at (length (heard ++ heard_by line said false (id_by table answer) ∷ [])) ((bytes ++ more) ++ 10 ∷ []) (grants_by (by_said line said answer ∷ before)) ≡ None
    → Bytes ((bytes ++ more) ++ 10 ∷ []) (table_by site 5 table answer) (heard ++ heard_by line said false (id_by table answer) ∷ []) (by_said line said answer ∷ before) (effects ++ answers_of (effects_by site 5 (message_limit initial.options) 1 table answer true))
line_of bytes more table heard before effects t line said answer within next left is on none =
    talks_line site initial peer 5 5 same_moment (λ event. refl) (bytes ++ more) table heard before effects (talks_within site initial peer 5 5 same_moment (λ event. refl) bytes more table heard before effects t within) 10 line said answer next left is on none

by_bytes_to_the_dot : Bytes (codes "HELO c.example\r\nMAIL FROM:<bob@c.example>\r\nRCPT TO:<ann@mx.example>\r\nDATA\r\nSubject: hi\r\n\r\nhello\r\n.\r\n") stored_now (given_lines ++ input DataEnd false (Some 1) ∷ []) (plain DataEnd (Gives message) ∷ whole)
    (first_effects ++ given_effects ++ Does (Asks (accept_of site 5 (message_of message) in_one)) ∷ Sends 1 (codes "250 2.0.0 w000000000001 Message accepted for delivery\r\n") true ∷ [])
unfolding most_recipients most_rows cut most_tokens digits most_command most_message most_headers most_path most_local_part most_domain shown_host last_id
by_bytes_to_the_dot =
    let one = line_of [] (codes "HELO c.example\r") start [] [] first_effects opening helo Unasked Greets refl refl refl refl refl refl in
    let two = line_of _ (codes "MAIL FROM:<bob@c.example>\r") start _ _ _ one mail of_sender sender_ok refl refl refl refl refl refl in
    let three = line_of _ (codes "RCPT TO:<ann@mx.example>\r") start _ _ _ two rcpt of_recipient recipient_ok refl refl refl refl refl refl in
    let four = line_of _ (codes "DATA\r") start _ _ _ three data_line Unasked Grants refl refl refl refl refl refl in
    let five = line_of _ (codes "Subject: hi\r") start _ _ _ four subject Unasked StaysSilent refl refl refl refl refl refl in
    let six = line_of _ (codes "\r") start _ _ _ five (Data []) Unasked StaysSilent refl refl refl refl refl refl in
    let seven = line_of _ (codes "hello\r") start _ _ _ six body Unasked StaysSilent refl refl refl refl refl refl in
    line_of _ (codes ".\r") start _ _ _ seven DataEnd Unasked (Gives message) refl refl refl refl refl refl

-- the same is sent and stored as by one piece
by_bytes : (turns : List Turn) × (map (λ (t : Turn). t.event) turns ≡ Opens 1 peer ∷ map one sent)
    × (answers_of (run site first_state turns).effects ≡ first_effects ++ given_effects ++ Does (Asks (accept_of site 5 (message_of message) in_one)) ∷ Sends 1 (codes "250 2.0.0 w000000000001 Message accepted for delivery\r\n") true ∷ closing)
unfolding most_recipients most_rows cut most_tokens most_command most_message most_domain shown_host last_id most_path most_local_part
by_bytes =
    let t = talks_within site initial peer 5 5 same_moment (λ event. refl) _ (codes "QUIT\r") stored_now _ _ _ by_bytes_to_the_dot refl in
    talks_last site initial peer 5 5 same_moment (λ event. refl) _ stored_now _ _ _ t 10 quit Unasked TakesLeave refl refl refl refl
