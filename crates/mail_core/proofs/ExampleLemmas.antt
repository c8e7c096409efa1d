-- What pieces come to, line by line: each fact is of one line, so that examples compute.
use Rattle.std.proofs.Common.{◌≡◌, ℕ, List, [], ◌∷◌, ◌++◌, length, slice_get, Bool, true, false, Option, Some, None, refl, sym, ◌∙◌, ap, subst, append_assoc}
use Rattle.std.specs.Prelude.{◌&&◌, codes, not, is_none, is_some, map, reverse, fold, if◌then◌else◌}
use Rattle.std.specs.List.{flat_map}
use Rattle.std.proofs.lemmas.Bool.{and_parts, cond-false, cond-true}
use Rattle.std.proofs.lemmas.Grind.{flat_map-append}
use Rattle.std.proofs.lemmas.List.{append-nil, map-append}
use Rattle.std.proofs.lemmas.List.Sums.{fold_push}
use Rattle.mail_base.specs.Limits.{message_limit}
use Rattle.mail_base.specs.declared.config.Config.{Config}
use Rattle.link_edge.specs.declared.event.Event.{Event}
use Rattle.link_edge.specs.declared.event.Event.TheVariants.{Opens, Brings}
use Rattle.smtp_lines.specs.declared.line.Line.{Line}
use Rattle.smtp_lines.specs.Stream.{reading_of}
use Rattle.smtp_receive.specs.Mails.{message_of}
use Rattle.smtp_receive.specs.Dialogue.{Heard, Exchange, Answer, Says, Refuses, Greets, Extends, Grants, TakesLeave, Gives, StaysSilent, answer_to, exchanges, is_dropped, with_heard}
use Rattle.smtp_receive.specs.Judging.{Said, Unasked}
use Rattle.smtp_receive.proofs.Examples.{message as example_message}
use Rattle.smtp_receive.specs.Replies.{text_of, refusal_text, grant_text, hello_text, extended_text, closing_text, out_of_memory_text, stored_text, shown_host}
use Rattle.spool_store.specs.Entries.{Table}
use Rattle.queue_table.specs.Commands.{after}
use Rattle.mail_core.specs.Sites.{Site}
use Rattle.mail_core.specs.Effects.{Effect, Takes, Ticks, Does, Sends, HangsUp, speech}
use Rattle.mail_core.specs.Guests.{Guest, grant_in, guest_of, is_passed, next_line, with_bytes}
use Rattle.mail_core.specs.Machine.{came, fits, Choice, Normal, OutOfMemory, Way, GoesOn, Leaves, Did, way_of, replies, by_choice, heard_line, id_by, is_answered, heard_where, answered, settled, settled_by, fresh_start, all_answered, Turn, at_moment, brought, moment_by, pieced, turned, run}
use Rattle.mail_core.specs.States.{State, Step, cut, headed, still, followed}
use Rattle.mail_core.specs.Beginning.{beginning, served}
use Rattle.mail_made.specs.Messages.{Made, is_spent}
use Rattle.mail_core.specs.Messages.{accept_of, start}
use Rattle.mail_core.proofs.FollowLemmas.{run_more}
use Rattle.mail_core.specs.Plans.{OfFloor, comes_from}
use Rattle.queue_run.specs.Deeds.{Asks}

-- a message in one part, with no header in front
abbrev pub in_one : Made
in_one = record {
  first = None;
  cuts = record { sender = example_message.sender; group = codes "mqueue"; rows = example_message.rows } ∷ [];
}

-- the grants of these exchanges, of which the latest is first
abbrev pub grants_by : List Exchange → List Bool
grants_by before = flat_map grant_in (reverse before)

-- the line at a place of a stream with these grants
abbrev pub line_at : ℕ → List ℕ → List Bool → Option Line
line_at place bytes grants = slice_get (reading_of bytes grants).lines place

-- a line was answered, by what was said of it
abbrev pub by_said : Line → Said → Answer → Exchange
by_said line said answer = record { line = line; said = said; answer = Some answer }

-- the same of one that isn't put to the judge
abbrev pub plain : Line → Answer → Exchange
plain line answer = by_said line Unasked answer

-- a line at which memory was wanting
abbrev pub lacked : Line → Exchange
lacked line = record { line = line; said = Unasked; answer = None }

-- a session with these lines
abbrev pub with_lines : Guest → List Heard → Guest
with_lines g heard = record g { heard = heard }

-- a line, what was said of it, whether memory was wanting, and the id that it got
abbrev pub heard_by : Line → Said → Bool → Option ℕ → Heard
heard_by line said short id = record { line = line; said = said; short = short; id = id }

-- the same of one that isn't put to the judge
abbrev pub input : Line → Bool → Option ℕ → Heard
input line short id = heard_by line Unasked short id

module _ (site : Site) (moment : ℕ) where
  -- what is done at an answer that is sent whole or not
  abbrev pub effects_by : ℕ → ℕ → Table → Answer → Bool → List Effect
  effects_by limit session table (Says reply) whole = speech session (text_of reply) whole
  effects_by limit session table (Refuses error) whole = speech session (refusal_text error) whole
  effects_by limit session table Greets whole = speech session (hello_text (shown_host site.host)) whole
  effects_by limit session table Extends whole = speech session (extended_text (shown_host site.host) limit) whole
  effects_by limit session table Grants whole = speech session grant_text whole
  effects_by limit session table TakesLeave whole = Sends session (closing_text (shown_host site.host)) whole ∷ HangsUp session ∷ []
  effects_by limit session table (Gives message) whole = Does (Asks (accept_of site moment (message_of message) in_one)) ∷ speech session (stored_text table.next) whole
  effects_by limit session table StaysSilent whole = []

  -- the table after an answer, where a message is accepted
  abbrev pub table_by : Table → Answer → Table
  table_by table (Says reply) = table
  table_by table (Refuses error) = table
  table_by table Greets = table
  table_by table Extends = table
  table_by table Grants = table
  table_by table TakesLeave = table
  table_by table (Gives message) = after table (accept_of site moment (message_of message) in_one)
  table_by table StaysSilent = table

  -- how a session goes on after an answer, by whether it was sent whole
  abbrev pub way_by : Answer → Bool → Way
  way_by (Says reply) whole = way_of whole
  way_by (Refuses error) whole = way_of whole
  way_by Greets whole = way_of whole
  way_by Extends whole = way_of whole
  way_by Grants whole = way_of whole
  way_by TakesLeave whole = Leaves
  way_by (Gives message) whole = way_of whole
  way_by StaysSilent whole = GoesOn

  -- what was done so far for a session
  abbrev pub so_far : Table → Guest → List Heard → Bool → List Effect → Way → Did
  so_far table guest heard may effects way = record { table = table; guest = with_lines guest heard; may_disconnect = may; effects = effects; way = way }

  -- what a piece has come to by these choices, and the exchanges of the lines so far
  pub record Comes (table : Table) (guest : Guest) (choices : List Choice) (now : Table) (heard : List Heard) (before : List Exchange) (effects : List Effect) (way : Way) : Type 0 where
    pub may : Bool
    pub known : exchanges guest.config guest.peer heard ≡ before
    pub is : fold (answered site moment) (fresh_start table guest) choices ≡ so_far now guest heard may effects way

  -- no line was answered
  pub comes_none : (table : Table) (guest : Guest) (before : List Exchange) → exchanges guest.config guest.peer guest.heard ≡ before → Comes table guest [] table guest.heard before [] GoesOn
  comes_none table guest before known = record { may = true; known = known; is = refl }

  module _ (table : Table) (guest : Guest) (choices : List Choice) (now : Table) (heard : List Heard) (before : List Exchange) (effects : List Effect) (line : Line) (c : Comes table guest choices now heard before effects GoesOn)
      (next : line_at (length heard) guest.received (grants_by before) ≡ Some line) where
    abbrev here : Did
    here = so_far now guest heard c.may effects GoesOn

    next_here : next_line here.guest ≡ Some line
    next_here = ap (λ q. line_at (length heard) guest.received (grants_by q)) c.known ∙ next

    chosen : (choice : Choice) → fold (answered site moment) (fresh_start table guest) (choices ++ choice ∷ []) ≡ by_choice site moment here choice (Some line)
    chosen choice =
        fold_push (answered site moment) (fresh_start table guest) choices choice
        ∙ ap (λ d. answered site moment d choice) c.is
        ∙ ap (λ o. by_choice site moment here choice o) next_here

    -- the bytes that a message may have
    abbrev most : ℕ
    most = message_limit guest.config.options

    replied : (answer : Answer) (whole : Bool) → is_spent now in_one ≡ false
        → replies site moment here answer in_one whole ≡ so_far (table_by now answer) guest heard c.may (effects ++ effects_by most guest.number now answer whole) (way_by answer whole)
    replied (Says reply) whole left = refl
    replied (Refuses error) whole left = refl
    replied Greets whole left = refl
    replied Extends whole left = refl
    replied Grants whole left = refl
    replied TakesLeave whole left = refl
    replied (Gives message) whole left =
        cond-false (is_spent now in_one) _ _ left
        ∙ ap (λ q. so_far (after now (accept_of site moment (message_of message) in_one)) guest heard c.may q (way_of whole))
        (append_assoc effects (Does (Asks (accept_of site moment (message_of message) in_one)) ∷ []) (speech guest.number (stored_text now.next) whole))
    replied StaysSilent whole left = ap (λ q. so_far now guest heard c.may q GoesOn) (sym (append-nil effects))

    heard_more : (h : Heard) → exchanges guest.config guest.peer (heard ++ h ∷ []) ≡ with_heard guest.config guest.peer before h
    heard_more h = fold_push (with_heard guest.config guest.peer) [] heard h ∙ ap (λ b. with_heard guest.config guest.peer b h) c.known

    answered_now : (answer : Answer) → is_spent now in_one ≡ false → is_answered now in_one answer ≡ true
    answered_now (Gives message) left = ap not left
    answered_now (Says reply) left = refl
    answered_now (Refuses error) left = refl
    answered_now Greets left = refl
    answered_now Extends left = refl
    answered_now Grants left = refl
    answered_now TakesLeave left = refl
    answered_now StaysSilent left = refl

    -- a line got its answer
    pub comes_said : (said : Said) (answer : Answer) (whole : Bool) → is_spent now in_one ≡ false → answer_to guest.config guest.peer before said line ≡ answer
        → Comes table guest (choices ++ Normal said in_one whole ∷ []) (table_by now answer) (heard ++ heard_by line said false (id_by now answer) ∷ []) (by_said line said answer ∷ before) (effects ++ effects_by most guest.number now answer whole) (way_by answer whole)
    comes_said said answer whole left is = record {
      may = (heard_line (so_far (table_by now answer) guest heard c.may (effects ++ effects_by most guest.number now answer whole) (way_by answer whole)) line said false (id_by now answer)).may_disconnect;
      known = heard_more (heard_by line said false (id_by now answer)) ∙ ap (λ a. by_said line said a ∷ before) is;
      is = chosen (Normal said in_one whole)
          ∙ ap (λ q. heard_where (is_answered now in_one (answer_to guest.config guest.peer q said line)) (replies site moment here (answer_to guest.config guest.peer q said line) in_one whole) line said false (id_by now (answer_to guest.config guest.peer q said line))) c.known
          ∙ ap (λ q. heard_where (is_answered now in_one q) (replies site moment here q in_one whole) line said false (id_by now q)) is
          ∙ ap (λ b. heard_where b (replies site moment here answer in_one whole) line said false (id_by now answer)) (answered_now answer left)
          ∙ ap (λ d. heard_line d line said false (id_by now answer)) (replied answer whole left);
    }

    -- the same where it isn't put to the judge
    pub comes_more : (answer : Answer) (whole : Bool) → is_spent now in_one ≡ false → answer_to guest.config guest.peer before Unasked line ≡ answer
        → Comes table guest (choices ++ Normal Unasked in_one whole ∷ []) (table_by now answer) (heard ++ input line false (id_by now answer) ∷ []) (plain line answer ∷ before) (effects ++ effects_by most guest.number now answer whole) (way_by answer whole)
    comes_more answer whole left is = comes_said Unasked answer whole left is

    -- 452 4.3.1 came in place of it
    pub comes_short : (whole : Bool) → is_dropped before line ≡ false
        → Comes table guest (choices ++ OutOfMemory whole ∷ []) now (heard ++ input line true None ∷ []) (lacked line ∷ before) (effects ++ speech guest.number out_of_memory_text whole) (way_of whole)
    comes_short whole kept = record {
      may = (heard_line (so_far now guest heard c.may (effects ++ speech guest.number out_of_memory_text whole) (way_of whole)) line Unasked true None).may_disconnect;
      known = heard_more (input line true None) ∙ ap (λ b. record { line = line; said = Unasked; answer = if not b then None else Some (answer_to guest.config guest.peer before Unasked line) } ∷ before) kept;
      is = chosen (OutOfMemory whole) ∙ cond-false (is_passed here.guest line) _ _ (ap (λ b. is_dropped b line) c.known ∙ kept);
    }

  module _ (table now : Table) (guest : Guest) (choices : List Choice) (heard : List Heard) (before : List Exchange) (effects : List Effect) where
    -- the session is over
    pub all_left : (c : Comes table guest choices now heard before effects Leaves) → all_answered site moment table guest choices ≡ so_far now guest heard c.may effects Leaves
    all_left c = ap settled c.is

    -- it goes on, and no line is left
    pub all_kept : (c : Comes table guest choices now heard before effects GoesOn) → line_at (length heard) guest.received (grants_by before) ≡ None → all_answered site moment table guest choices ≡ so_far now guest heard c.may effects GoesOn
    all_kept c none =
        ap settled c.is
        ∙ ap (λ o. settled_by GoesOn o (so_far now guest heard c.may effects GoesOn))
        (ap (λ q. line_at (length heard) guest.received (grants_by q)) c.known ∙ none)

-- the state in which a run over the first table begins
abbrev pub first_state : State
first_state = beginning (served start)

-- a turn is taken, and then this is done
abbrev pub taken : Turn → Step → Step
taken turn step = headed (came turn.origin turn.event) step

-- a piece of the session of a number
abbrev pub piece : ℕ → List ℕ → ℕ → List Choice → Turn
piece session bytes reading choices = record { event = Brings session bytes; origin = OfFloor reading; choices = choices }

-- a turn that brings a piece
pub piece_turn : (site : Site) (m : State) (session : ℕ) (g : Guest) (bytes : List ℕ) (reading : ℕ) (choices : List Choice) (d : Did) → m.over ≡ None → comes_from site.plan m.stopping (OfFloor reading) (Brings session bytes) ≡ true → guest_of session m.guests ≡ Some g
    → all_answered site (at_moment m reading).latest m.table (with_bytes g bytes) choices ≡ d → turned site m (piece session bytes reading choices) ≡ taken (piece session bytes reading choices) (brought (at_moment m reading) d.way d)
piece_turn site m session g bytes reading choices d on comes is all =
    cond-false (is_some m.over) (still m) _ (ap is_some on)
    ∙ cond-true (fits site m (piece session bytes reading choices)) _ (cut m) comes
    ∙ ap (λ o. taken (piece session bytes reading choices) (pieced site (at_moment m reading) bytes choices o)) is
    ∙ ap (λ (q : Did). taken (piece session bytes reading choices) (brought (at_moment m reading) q.way q)) all

-- a run, turn by turn
pub run_first : (site : Site) (m : State) (turn : Turn) (turns : List Turn) (now later : Step) → turned site m turn ≡ now → run site now.state turns ≡ later → run site m (turn ∷ turns) ≡ followed now later
run_first site m turn turns now later first rest =
    ap (λ (s : Step). followed s (run site s.state turns)) first ∙ ap (λ (s : Step). followed now s) rest

-- ---- byte by byte

-- no byte of these, one after the other, completes a line of what was received
abbrev pub are_within : ℕ → List Bool → List ℕ → List ℕ → Bool
are_within place grants received [] = true
are_within place grants received (b ∷ bytes) = is_none (line_at place (received ++ b ∷ []) grants) && are_within place grants (received ++ b ∷ []) bytes

-- what is sent and asked for of all that is done
abbrev pub answers_in : Effect → List Effect
answers_in (Takes event) = []
answers_in (Ticks reading) = []
answers_in (Does deed) = Does deed ∷ []
answers_in (Sends session text whole) = Sends session text whole ∷ []
answers_in (HangsUp session) = HangsUp session ∷ []

-- of effects, what is sent and asked for
abbrev pub answers_of : List Effect → List Effect
answers_of effects = flat_map answers_in effects

none_is : (o : Option Line) → is_none o ≡ true → o ≡ None
none_is None is = refl
none_is (Some line) is = absurd (cc is)

-- a byte of the session 1
abbrev pub one : ℕ → Event
one b = Brings 1 (b ∷ [])

module _ (site : Site) (config : Config) (peer : List ℕ) (reading : ℕ) (latest : ℕ) (same : moment_by latest reading ≡ latest) (serves : (event : Event) → comes_from site.plan false (OfFloor reading) event ≡ true) where
  abbrev pub caller : List ℕ → List Heard → Guest
  caller bytes heard = record { number = 1; config = config; peer = peer; received = bytes; heard = heard }

  -- a session alone, between its bytes
  abbrev pub alone : Table → List ℕ → List Heard → State
  alone table bytes heard = record { table = table; guests = caller bytes heard ∷ []; seats = []; list = []; latest = latest; stopping = false; over = None }

  abbrev pub byte_turn : ℕ → List Choice → Turn
  byte_turn b choices = piece 1 (b ∷ []) reading choices

  -- by some choices, this is what these bytes have come to, one after the other
  pub record Talks (bytes : List ℕ) (table : Table) (heard : List Heard) (before : List Exchange) (effects : List Effect) : Type 0 where
    pub turns : List Turn
    pub events : map (λ (t : Turn). t.event) turns ≡ Opens 1 peer ∷ map one bytes
    pub done : List Effect
    pub is : run site first_state turns ≡ record { state = alone table bytes heard; effects = done }
    pub answers : answers_of done ≡ effects
    pub known : exchanges config peer heard ≡ before

  module _ (bytes : List ℕ) (table : Table) (heard : List Heard) (before : List Exchange) (effects : List Effect) (t : Talks bytes table heard before effects) (b : ℕ) where
    abbrev now : List ℕ
    now = bytes ++ b ∷ []

    -- one byte more
    turn_more : (choices : List Choice) (d : Did) → all_answered site latest table (caller now heard) choices ≡ d
        → run site first_state (t.turns ++ byte_turn b choices ∷ []) ≡ followed (record { state = alone table bytes heard; effects = t.done }) (taken (byte_turn b choices) (brought (alone table bytes heard) d.way d))
    turn_more choices d all =
        let m = alone table bytes heard in
        let at : at_moment m reading ≡ m = ap (λ n. record m { latest = n }) same in
        run_more site first_state t.turns (byte_turn b choices)
        ∙ ap (λ (s : Step). followed s (turned site s.state (byte_turn b choices))) t.is
        ∙ ap (λ (s : Step). followed (record { state = m; effects = t.done }) s)
        (piece_turn site m 1 (caller bytes heard) (b ∷ []) reading choices d refl (serves (Brings 1 (b ∷ []))) refl (ap (λ n. all_answered site n table (caller now heard) choices) same ∙ all)
        ∙ ap (λ q. taken (byte_turn b choices) (brought q d.way d)) at)

    events_more : (choices : List Choice) → map (λ (q : Turn). q.event) (t.turns ++ byte_turn b choices ∷ []) ≡ Opens 1 peer ∷ map one now
    events_more choices =
        map-append (λ (q : Turn). q.event) t.turns (byte_turn b choices ∷ [])
        ∙ ap (λ q. q ++ one b ∷ []) t.events
        ∙ ap (λ q. Opens 1 peer ∷ q) (sym (map-append one bytes (b ∷ [])))

    answers_more : (more : List Effect) → answers_of (t.done ++ Takes (one b) ∷ Ticks reading ∷ more) ≡ effects ++ answers_of more
    answers_more more = flat_map-append answers_in t.done (Takes (one b) ∷ Ticks reading ∷ more) ∙ ap (λ q. q ++ answers_of more) t.answers

    -- it completes no line
    pub talks_byte : line_at (length heard) now (grants_by before) ≡ None → Talks now table heard before effects
    talks_byte none =
        let c = comes_none site latest table (caller now heard) before t.known in record {
          turns = t.turns ++ byte_turn b [] ∷ [];
          events = events_more [];
          done = t.done ++ Takes (one b) ∷ Ticks reading ∷ [];
          is = turn_more [] _ (all_kept site latest table table (caller now heard) [] heard before [] c none);
          answers = answers_more [] ∙ append-nil effects;
          known = t.known;
        }

    -- it completes one, which gets its answer
    pub talks_line : (line : Line) (said : Said) (answer : Answer) → line_at (length heard) now (grants_by before) ≡ Some line → is_spent table in_one ≡ false → answer_to config peer before said line ≡ answer
        → way_by site latest answer true ≡ GoesOn → line_at (length (heard ++ heard_by line said false (id_by table answer) ∷ [])) now (grants_by (by_said line said answer ∷ before)) ≡ None
        → Talks now (table_by site latest table answer) (heard ++ heard_by line said false (id_by table answer) ∷ []) (by_said line said answer ∷ before) (effects ++ answers_of (effects_by site latest (message_limit config.options) 1 table answer true))
    talks_line line said answer next left is on none =
        let c = comes_said site latest table (caller now heard) [] table heard before [] line (comes_none site latest table (caller now heard) before t.known) next said answer true left is in
        let went = subst (λ w. Comes site latest table (caller now heard) (Normal said in_one true ∷ []) (table_by site latest table answer) (heard ++ heard_by line said false (id_by table answer) ∷ []) (by_said line said answer ∷ before) (effects_by site latest (message_limit config.options) 1 table answer true) w) on c in record {
          turns = t.turns ++ byte_turn b (Normal said in_one true ∷ []) ∷ [];
          events = events_more (Normal said in_one true ∷ []);
          done = t.done ++ Takes (one b) ∷ Ticks reading ∷ effects_by site latest (message_limit config.options) 1 table answer true;
          is = turn_more (Normal said in_one true ∷ []) _ (all_kept site latest table (table_by site latest table answer) (caller now heard) (Normal said in_one true ∷ []) (heard ++ heard_by line said false (id_by table answer) ∷ []) (by_said line said answer ∷ before) (effects_by site latest (message_limit config.options) 1 table answer true) went none);
          answers = answers_more (effects_by site latest (message_limit config.options) 1 table answer true);
          known = went.known;
        }

    -- it completes the last one, which ends the session
    pub talks_last : (line : Line) (said : Said) (answer : Answer) → line_at (length heard) now (grants_by before) ≡ Some line → is_spent table in_one ≡ false → answer_to config peer before said line ≡ answer → way_by site latest answer true ≡ Leaves
        → (turns : List Turn) × (map (λ (q : Turn). q.event) turns ≡ Opens 1 peer ∷ map one now) × (answers_of (run site first_state turns).effects ≡ effects ++ answers_of (effects_by site latest (message_limit config.options) 1 table answer true))
    talks_last line said answer next left is off =
        let c = comes_said site latest table (caller now heard) [] table heard before [] line (comes_none site latest table (caller now heard) before t.known) next said answer true left is in
        let went = subst (λ w. Comes site latest table (caller now heard) (Normal said in_one true ∷ []) (table_by site latest table answer) (heard ++ heard_by line said false (id_by table answer) ∷ []) (by_said line said answer ∷ before) (effects_by site latest (message_limit config.options) 1 table answer true) w) off c in (
          t.turns ++ byte_turn b (Normal said in_one true ∷ []) ∷ [],
          events_more (Normal said in_one true ∷ []),
          ap (λ (s : Step). answers_of s.effects) (turn_more (Normal said in_one true ∷ []) _ (all_left site latest table (table_by site latest table answer) (caller now heard) (Normal said in_one true ∷ []) (heard ++ heard_by line said false (id_by table answer) ∷ []) (by_said line said answer ∷ before) (effects_by site latest (message_limit config.options) 1 table answer true) went))
              ∙ answers_more (effects_by site latest (message_limit config.options) 1 table answer true),
        )

  -- bytes within a line
  pub talks_within : (bytes more : List ℕ) (table : Table) (heard : List Heard) (before : List Exchange) (effects : List Effect) → Talks bytes table heard before effects → are_within (length heard) (grants_by before) bytes more ≡ true
      → Talks (bytes ++ more) table heard before effects
  talks_within bytes [] table heard before effects t within = subst (λ q. Talks q table heard before effects) (sym (append-nil bytes)) t
  talks_within bytes (b ∷ more) table heard before effects t within =
      let parts = and_parts _ _ within in
      subst (λ q. Talks q table heard before effects) (append_assoc bytes (b ∷ []) more)
      (talks_within (bytes ++ b ∷ []) more table heard before effects (talks_byte bytes table heard before effects t b (none_is _ parts.0)) parts.1)
