-- The machine: what sessions, runners, table and clock come to at each event. What it can't know
-- are the choices at an event: whether a text could be sent, where memory was wanting, what the
-- judge said, how the step of a runner went, and that the spool failed, or files that the judge
-- reads (own; the replies are those of RFC 5321).
use Rattle.std.specs.Prelude.{ℕ, ◌≤◌, nat_le, List, [], ◌∷◌, ◌++◌, length, fold, max, Option, Some, None, is_some, Bool, true, false, not, ◌&&◌, if◌then◌else◌}
use Rattle.link_edge.specs.declared.event.Event.{Event}
use Rattle.link_edge.specs.declared.event.Event.TheVariants.{Opens, Brings, Closes, Rests, Stops}
use Rattle.smtp_lines.specs.declared.line.Line.{Line}
use Rattle.smtp_lines.specs.Stream.{asks}
use Rattle.mail_base.specs.Limits.{message_limit}
use Rattle.mail_base.specs.declared.message.Message.{Message}
use Rattle.smtp_receive.specs.Dialogue.{Answer, Says, Refuses, Greets, Extends, Grants, TakesLeave, Gives, StaysSilent}
use Rattle.smtp_receive.specs.Judging.{Question, Said, Unasked}
use Rattle.smtp_receive.specs.Mails.{message_of}
use Rattle.smtp_receive.specs.Replies.{text_of, refusal_text, grant_text, hello_text, extended_text, closing_text, greeting_text, stored_text, shown_host, out_of_memory_text, too_many_sessions_text}
use Rattle.smtp_receive.specs.Sessions.{answer_of, question_of}
use Rattle.spool_store.specs.Entries.{Table}
use Rattle.queue_table.specs.Commands.{after}
use Rattle.queue_run.specs.Deeds.{Asks}
use Rattle.queue_run.specs.Steps.{Luck}
use Rattle.mail_core.specs.Effects.{Effect, Takes, Ticks, Sends, HangsUp, Does, speech}
use Rattle.mail_core.specs.Guests.{Guest, newcomer, next_line, is_passed, has_bytes_left, with_bytes, with_line, guest_of, is_here, AreApart, without, with_guest}
use Rattle.mail_core.specs.Idling.{Idling, ends_list, idle, stopped}
use Rattle.mail_made.specs.Messages.{Made, is_spent}
use Rattle.mail_made.specs.Moments.{moment_of}
use Rattle.mail_core.specs.Messages.{accept_of}
use Rattle.mail_core.specs.Plans.{Origin, OfFloor, OfRun, comes_from, reading_of}
use Rattle.mail_core.specs.Sites.{Site}
use Rattle.mail_core.specs.States.{By, Cut, FilesFault, Finish, IdsSpent, SpoolFault, State, Step, cut, followed, headed, still}

-- what is left open at an opening: its greeting, or its 421, is sent whole or not; or the session
-- ends for want of memory
pub data Opening : Type 0 where
  Replied : (whole : Bool) → Opening
  Dropped : Opening

-- what is left open at a line: its reply, sent whole or not, by what the judge said of the line
-- and, where a message is taken in, what is made of it; 452 4.3.1 in place of it; the session's end
-- for want of memory; a fault of the spool, or of the judge. What the judge may say, and what is
-- made of a message, isn't left open (`IsMeant`)
pub data Choice : Type 0 where
  Normal : (said : Said) (made : Made) (whole : Bool) → Choice
  OutOfMemory : (whole : Bool) → Choice
  Disconnects : Choice
  SpoolFails : (made : Made) → Choice
  JudgeFails : Choice

-- what is left open at an event: at an opening, at each line that a piece completes, at a turn in
-- which nothing came, and at the step of a child's holder behind a Stop, if there is one
abbrev pub Choices : Event → Type 0
Choices (Opens session peer) = Opening
Choices (Brings session bytes) = List Choice
Choices (Closes session) = Unit {0}
Choices Rests = Idling
Choices Stops = Option Luck

-- how a session goes on: it does, it is over, or the whole run is
pub data Way : Type 0 where
  GoesOn : Way
  Leaves : Way
  Over : (finish : Finish) → Way

-- what a piece has come to so far: the table, the session, whether want of memory may end the
-- session here, what was done, and how it goes on
pub record Did : Type 0 where
  pub table : Table
  pub guest : Guest
  pub may_disconnect : Bool
  pub effects : List Effect
  pub way : Way

-- a session goes on where all was sent to it
abbrev pub way_of : Bool → Way
way_of true = GoesOn
way_of false = Leaves

-- more is done
abbrev pub does : Did → List Effect → Way → Did
does d effects way = record d { effects = d.effects ++ effects; way = way }

-- a text is said
abbrev pub says : Did → List ℕ → Bool → Did
says d text whole = does d (speech d.guest.number text whole) (way_of whole)

-- the last text is said
abbrev pub closes : Did → List ℕ → Bool → Did
closes d text whole = does d (Sends d.guest.number text whole ∷ HangsUp d.guest.number ∷ []) Leaves

-- the run is over here
abbrev pub is_over : Did → Finish → Did
is_over d finish = does d [] (Over finish)

-- the answer to a line by what the judge says of it
abbrev pub answer_by : Did → Said → Line → Answer
answer_by d said line = answer_of d.guest.config d.guest.peer d.guest.heard said line

-- what a line asks of the judge
abbrev pub question_here : Did → Line → Option Question
question_here d line = question_of d.guest.config d.guest.peer d.guest.heard line

-- a message is asked of the table
abbrev pub commits : Site → ℕ → Did → Message → Made → Did
commits site moment d message made = record d {
  table = after d.table (accept_of site moment message made);
  effects = d.effects ++ Does (Asks (accept_of site moment message made)) ∷ [];
}

-- a message is accepted, and then its 250 said, with the id of its first part; where an id is
-- wanting the run ends
abbrev pub accepts : Site → ℕ → Did → Message → Made → Bool → Did
accepts site moment d message made whole =
    if is_spent d.table made then is_over d (By IdsSpent)
    else says (commits site moment d message made) (stored_text d.table.next) whole

-- the bytes that a message of a session may have
abbrev pub limit_of : Did → ℕ
limit_of d = message_limit d.guest.config.options

-- the answer that the dialogue has, sent whole or not, with what is made of a message
abbrev pub replies : Site → ℕ → Did → Answer → Made → Bool → Did
replies site moment d (Says reply) made whole = says d (text_of reply) whole
replies site moment d (Refuses error) made whole = says d (refusal_text error) whole
replies site moment d Greets made whole = says d (hello_text (shown_host site.host)) whole
replies site moment d Extends made whole =
    says d (extended_text (shown_host site.host) (limit_of d)) whole
replies site moment d Grants made whole = says d grant_text whole
replies site moment d TakesLeave made whole = closes d (closing_text (shown_host site.host)) whole
replies site moment d (Gives mail) made whole =
    accepts site moment d (message_of mail) made whole
replies site moment d StaysSilent made whole = d

-- the spool fails at a message, where no id is wanting for it; nothing else is asked of it
abbrev pub fails : Site → ℕ → Did → Answer → Made → Did
fails site moment d (Gives mail) made =
    if is_spent d.table made then is_over d (By IdsSpent)
    else is_over (commits site moment d (message_of mail) made) (By SpoolFault)
fails site moment d answer made = is_over d Cut

-- the line was answered; bytes that came after one that asks may be what want of memory keeps from
-- being read
abbrev pub heard_line : Did → Line → Said → Bool → Option ℕ → Did
heard_line d line said short id = record d {
  guest = with_line d.guest line said short id;
  may_disconnect = asks line && has_bytes_left (with_line d.guest line said short id);
}

-- the id that is given at an answer: that of the first part of a message that is taken in
abbrev pub id_by : Table → Answer → Option ℕ
id_by table (Gives message) = Some table.next
id_by table (Says reply) = None
id_by table (Refuses error) = None
id_by table Greets = None
id_by table Extends = None
id_by table Grants = None
id_by table TakesLeave = None
id_by table StaysSilent = None

-- whether the run goes on behind an answer: a message needs ids
abbrev pub is_answered : Table → Made → Answer → Bool
is_answered table made (Gives message) = not (is_spent table made)
is_answered table made (Says reply) = true
is_answered table made (Refuses error) = true
is_answered table made Greets = true
is_answered table made Extends = true
is_answered table made Grants = true
is_answered table made TakesLeave = true
is_answered table made StaysSilent = true

-- the line is among those that were answered, but where the run ends at it
abbrev pub heard_where : Bool → Did → Line → Said → Bool → Option ℕ → Did
heard_where true d line said short id = heard_line d line said short id
heard_where false d line said short id = d

-- a line is answered by a choice; 452 4.3.1 comes to no line of data that is dropped, and files
-- fail only at one that asks the judge. Want of
-- memory for a piece, or for the bytes after a line that asks, drops them whole and ends the
-- session
abbrev pub by_choice : Site → ℕ → Did → Choice → Option Line → Did
by_choice site moment d (Normal said made whole) (Some line) =
    heard_where (is_answered d.table made (answer_by d said line))
    (replies site moment d (answer_by d said line) made whole) line said false
    (id_by d.table (answer_by d said line))
by_choice site moment d (OutOfMemory whole) (Some line) =
    if is_passed d.guest line then is_over d Cut
    else heard_line (says d out_of_memory_text whole) line Unasked true None
by_choice site moment d (SpoolFails made) (Some line) =
    fails site moment d (answer_by d Unasked line) made
by_choice site moment d JudgeFails (Some line) =
    if is_some (question_here d line) then is_over d (By FilesFault) else is_over d Cut
by_choice site moment d Disconnects line =
    if d.may_disconnect then does d (HangsUp d.guest.number ∷ []) Leaves else is_over d Cut
by_choice site moment d (Normal said made whole) None = is_over d Cut
by_choice site moment d (OutOfMemory whole) None = is_over d Cut
by_choice site moment d (SpoolFails made) None = is_over d Cut
by_choice site moment d JudgeFails None = is_over d Cut

-- the next line is answered where the session still goes on
abbrev pub goes_on : Way → Did → Did → Did
goes_on GoesOn d next = next
goes_on Leaves d next = d
goes_on (Over finish) d next = d

abbrev pub answered : Site → ℕ → Did → Choice → Did
answered site moment d choice = goes_on d.way d (by_choice site moment d choice (next_line d.guest))

-- a session goes on only where no line is left: a choice that is missing cuts the run there
abbrev pub settled_by : Way → Option Line → Did → Did
settled_by GoesOn (Some line) d = is_over d Cut
settled_by GoesOn None d = d
settled_by Leaves line d = d
settled_by (Over finish) line d = d

abbrev pub settled : Did → Did
settled d = settled_by d.way (next_line d.guest) d

-- nothing was done yet
abbrev pub fresh_start : Table → Guest → Did
fresh_start table guest =
    record { table = table; guest = guest; may_disconnect = true; effects = []; way = GoesOn }

-- the lines that a piece completes, by a choice each
abbrev pub all_answered : Site → ℕ → Table → Guest → List Choice → Did
all_answered site moment table guest choices =
    settled (fold (answered site moment) (fresh_start table guest) choices)

-- the most sessions that are open at once
unfoldable pub most_guests : ℕ
most_guests = 64

-- sessions that may be open together: they are no more than that, and no two have one number
pub record AreOpen (guests : List Guest) : Type 0 where
  pub few : length guests ≤ most_guests
  pub apart : AreApart guests

-- a session more than may be open gets 421 and is hung up; its text is kept, so want of memory
-- doesn't come between
abbrev pub turned_away : State → ℕ → Opening → Step
turned_away m session (Replied whole) = record {
  state = m;
  effects = Sends session too_many_sessions_text whole ∷ HangsUp session ∷ [];
}
turned_away m session Dropped = cut m

-- a new session gets the greeting, and is kept where it was sent; want of memory ends it
abbrev pub welcomed : Site → State → ℕ → List ℕ → Opening → Step
welcomed site m session peer (Replied true) =
    record {
      state = record m { guests = m.guests ++ newcomer site.config session peer ∷ [] };
      effects = Sends session (greeting_text (shown_host site.host)) true ∷ [];
    }
welcomed site m session peer (Replied false) =
    record {
      state = m;
      effects = Sends session (greeting_text (shown_host site.host)) false ∷ HangsUp session ∷ [];
    }
welcomed site m session peer Dropped = record { state = m; effects = HangsUp session ∷ [] }

-- an opening; one of a session that is open changes nothing
abbrev pub opened : Site → State → ℕ → List ℕ → Opening → Step
opened site m session peer choice =
    if is_here session m.guests then still m
    else if nat_le most_guests (length m.guests) then turned_away m session choice
    else welcomed site m session peer choice

-- what a piece came to
abbrev pub brought : State → Way → Did → Step
brought m GoesOn d = record {
  state = record m { table = d.table; guests = with_guest d.guest m.guests };
  effects = d.effects;
}
brought m Leaves d = record {
  state = record m { table = d.table; guests = without d.guest.number m.guests };
  effects = d.effects;
}
brought m (Over finish) d = record {
  state = record m {
    table = d.table;
    guests = without d.guest.number m.guests;
    over = Some finish;
  };
  effects = d.effects;
}

-- a piece of the session of that number, which is dropped where none is open
abbrev pub pieced : Site → State → List ℕ → List Choice → Option Guest → Step
pieced site m bytes choices None = still m
pieced site m bytes choices (Some guest) =
    let d = all_answered site m.latest m.table (with_bytes guest bytes) choices in brought m d.way d

-- what is done at an event
abbrev pub handled : Site → State → (event : Event) → Choices event → Step
handled site m (Opens session peer) choice = opened site m session peer choice
handled site m (Brings session bytes) choices =
    pieced site m bytes choices (guest_of session m.guests)
handled site m (Closes session) none = still (record m { guests = without session m.guests })
handled site m Rests choice = ends_list site (idle site m choice)
handled site m Stops luck = stopped site (record m { stopping = true }) luck

-- a turn: its event, where it came from with the clock's reading at it, and what was left open in
-- it
pub record Turn : Type 0 where
  pub event : Event
  pub origin : Origin
  pub choices : Choices event

-- the moment of an event: the greatest reading so far
abbrev pub moment_by : ℕ → ℕ → ℕ
moment_by latest reading = max latest (moment_of reading)

-- the clock was read
abbrev pub at_moment : State → ℕ → State
at_moment m reading = record m { latest = moment_by m.latest reading }

-- what is seen of a turn itself
abbrev pub came : Origin → Event → List Effect
came (OfFloor reading) event = Takes event ∷ Ticks reading ∷ []
came (OfRun reading) event = Ticks reading ∷ []

-- a turn may come then
abbrev pub fits : Site → State → Turn → Bool
fits site m turn = comes_from site.plan m.stopping turn.origin turn.event

-- one turn; after the run is over there is none
abbrev pub turned : Site → State → Turn → Step
turned site m turn =
    if is_some m.over then still m
    else if fits site m turn
    then headed (came turn.origin turn.event)
    (handled site (at_moment m (reading_of turn.origin)) turn.event turn.choices)
    else cut m

-- a whole run
abbrev pub run : Site → State → List Turn → Step
run site m [] = still m
run site m (turn ∷ turns) = let now = turned site m turn in followed now (run site now.state turns)
