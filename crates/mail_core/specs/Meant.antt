-- What is said of the lines of a run is what its judge says, and the headers Received, the parts of
-- messages and the steps of runners are those of the configuration (own; Sendmail Installation and
-- Operation Guide, H: Define Header, and "Queue Groups").
use Rattle.std.specs.Prelude.{◌≡◌, ℕ, ◌≤◌, List, [], ◌∷◌, Option, None, Some, true}
use Rattle.link_edge.specs.declared.event.Event.{Event}
use Rattle.link_edge.specs.declared.event.Event.TheVariants.{Opens, Brings, Closes, Rests, Stops}
use Rattle.smtp_lines.specs.declared.line.Line.{Line}
use Rattle.smtp_receive.specs.Dialogue.{Answer, Says as Replies, Refuses, Greets, Extends, Grants, TakesLeave, Gives, StaysSilent}
use Rattle.smtp_receive.specs.Judging.{Said, Unasked}
use Rattle.smtp_receive.specs.Mails.{message_of}
use Rattle.spool_store.specs.Entries.{Table}
use Rattle.mail_core.specs.Guests.{Guest, guest_of, next_line, with_bytes}
use Rattle.mail_core.specs.Judges.{JudgeSeen, Says}
use Rattle.mail_core.specs.Machine.{Choice, Normal, OutOfMemory, Disconnects, SpoolFails, JudgeFails, Choices, Did, Turn, answer_by, answered, at_moment, fresh_start, question_here, turned}
use Rattle.mail_made.specs.Messages.{IsTakenIn, Made, last_id}
use Rattle.mail_core.specs.Plans.{reading_of}
use Rattle.mail_core.specs.Resting.{IsRestMeant, IsRestRead, IsStopMeant, IsStopRead}
use Rattle.mail_core.specs.Sites.{Site}
use Rattle.mail_core.specs.States.{State}

-- what a judge says of the path of a line, if it is put to it
abbrev pub IsSaidAt : JudgeSeen → Did → Line → Said → Type 0
IsSaidAt j d line said = Says j (question_here d line) said

-- a message that an answer gives has a row, and what is made of it is what the configuration says,
-- where an id is left for its first part
abbrev pub IsMadeAt : Site → ℕ → Table → Answer → Made → Type 0
IsMadeAt site moment table (Gives mail) made =
    table.next ≤ last_id
    → IsTakenIn site.config site.maps moment (message_of mail) table.next made
IsMadeAt site moment table (Replies reply) made = Unit {0}
IsMadeAt site moment table (Refuses error) made = Unit {0}
IsMadeAt site moment table Greets made = Unit {0}
IsMadeAt site moment table Extends made = Unit {0}
IsMadeAt site moment table Grants made = Unit {0}
IsMadeAt site moment table TakesLeave made = Unit {0}
IsMadeAt site moment table StaysSilent made = Unit {0}

-- a choice at a line says what the judge does, and what the configuration does
abbrev pub IsMeant : JudgeSeen → Site → ℕ → Did → Choice → Option Line → Type 0
IsMeant j site moment d (Normal said made whole) (Some line) =
    IsSaidAt j d line said
    × IsMadeAt site moment d.table (answer_by d said line) made
IsMeant j site moment d (SpoolFails made) (Some line) =
    IsMadeAt site moment d.table (answer_by d Unasked line) made
IsMeant j site moment d (OutOfMemory whole) (Some line) = Unit {0}
IsMeant j site moment d Disconnects (Some line) = Unit {0}
IsMeant j site moment d JudgeFails (Some line) = Unit {0}
IsMeant j site moment d (Normal said made whole) None = said ≡ Unasked
IsMeant j site moment d (OutOfMemory whole) None = Unit {0}
IsMeant j site moment d Disconnects None = Unit {0}
IsMeant j site moment d (SpoolFails made) None = Unit {0}
IsMeant j site moment d JudgeFails None = Unit {0}

-- and so do the choices at the lines of a piece
abbrev pub AreMeant : JudgeSeen → Site → ℕ → Did → List Choice → Type 0
AreMeant j site moment d [] = Unit {0}
AreMeant j site moment d (choice ∷ choices) =
    IsMeant j site moment d choice (next_line d.guest)
    × AreMeant j site moment (answered site moment d choice) choices

-- at a piece of a session, if it is open
abbrev pub ArePieceMeant : JudgeSeen → Site → State → List ℕ → List Choice → Option Guest → Type 0
ArePieceMeant j site m bytes choices None = Unit {0}
ArePieceMeant j site m bytes choices (Some guest) =
    AreMeant j site m.latest (fresh_start m.table (with_bytes guest bytes)) choices

-- at an event
abbrev pub IsEventMeant : JudgeSeen → Site → State → (event : Event) → Choices event → Type 0
IsEventMeant j site m (Opens session peer) choice = Unit {0}
IsEventMeant j site m (Brings session bytes) choices =
    ArePieceMeant j site m bytes choices (guest_of session m.guests)
IsEventMeant j site m (Closes session) none = Unit {0}
IsEventMeant j site m Rests choice = IsRestMeant j site m choice
IsEventMeant j site m Stops luck = IsStopMeant j site (record m { stopping = true }) luck

-- all that was said in a run is what the judge says, and all that was made of its messages, and by
-- its runners, is what the configuration says
abbrev pub IsRunMeant : JudgeSeen → Site → State → List Turn → Type 0
IsRunMeant j site m [] = Unit {0}
IsRunMeant j site m (turn ∷ turns) =
    IsEventMeant j site (at_moment m (reading_of turn.origin)) turn.event turn.choices
    × IsRunMeant j site (turned site m turn).state turns

-- what the steps of an event read is what the table has
abbrev pub IsEventRead : State → (event : Event) → Choices event → Type 0
IsEventRead m (Opens session peer) choice = Unit {0}
IsEventRead m (Brings session bytes) choices = Unit {0}
IsEventRead m (Closes session) none = Unit {0}
IsEventRead m Rests choice = IsRestRead m choice
IsEventRead m Stops luck = IsStopRead m luck

-- and so do those of a run
abbrev pub AreRead : Site → State → List Turn → Type 0
AreRead site m [] = Unit {0}
AreRead site m (turn ∷ turns) =
    IsEventRead m turn.event turn.choices × AreRead site (turned site m turn).state turns
