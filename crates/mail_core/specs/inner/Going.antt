-- What the code does for lines and pieces, as some choices of the machine: the contracts of its
-- steps. It need not be believed: only private contracts cite it.
use Rattle.std.specs.Prelude.{Result, Ok, Err, is_ok, ◌≡◌, ℕ, List, [], ◌∷◌, ◌++◌, fold, Bool, true, false, not, Option, Some, None, ◌≢◌, if◌then◌else◌}
use Rattle.mail_base.specs.declared.config.Config.{Config}
use Rattle.smtp_lines.specs.declared.line.Line.{Line}
use Rattle.smtp_lines.specs.declared.line.Line.TheVariants.{DataEnd}
use Rattle.mail_base.specs.declared.message.Message.{Message}
use Rattle.smtp_receive.specs.Dialogue.{Heard, Gives}
use Rattle.smtp_receive.specs.Mails.{mail_of}
use Rattle.smtp_receive.specs.Judging.{Said, Unasked}
use Rattle.smtp_receive.specs.Replies.{out_of_memory_text}
use Rattle.smtp_receive.specs.Sessions.{Stands as Speaks}
use Rattle.smtp_lines.specs.Reader.{asked_after}
use Rattle.spool_store.specs.Entries.{Table}
use Rattle.mail_core.specs.declared.next.Next.{Next}
use Rattle.mail_core.specs.declared.next.Next.TheVariants.{Continue, BeginData, Closed}
use Rattle.mail_core.specs.declared.serving.CoreStop.{CoreStop}
use Rattle.mail_core.specs.declared.caller.Caller.{Caller}
use Rattle.mail_core.specs.declared.intake.Intake.{Intake}
use Rattle.mail_core.specs.Effects.{Effect, table_after}
use Rattle.mail_core.specs.Guests.{Guest, grants_of, has_bytes_left, with_bytes, lines_heard}
use Rattle.mail_core.specs.Sites.{Site}
use Rattle.mail_core.specs.Judges.{JudgeSeen}
use Rattle.mail_core.specs.Meant.{AreMeant, IsMadeAt, IsMeant}
use Rattle.mail_made.specs.Messages.{is_spent}
use Rattle.mail_core.specs.Causes.{HasCause, ending_by, is_well}
use Rattle.mail_core.specs.States.{Ending, By, Cut}
use Rattle.mail_core.specs.Machine.{Choice, Normal, OutOfMemory, Disconnects, SpoolFails, JudgeFails, Way, GoesOn, Leaves, Over, Did, is_over, says, accepts, fails, fresh_start, by_choice, heard_line, heard_where, answered, all_answered}
use Rattle.mail_core.specs.Seen.{Seen, Ran}
use Rattle.mail_core.specs.Standing.{Serves, Talks, Keeps}

-- whether a session stays open
abbrev pub stays_open : Next → Bool
stays_open Continue = true
stays_open BeginData = true
stays_open Closed = false

-- whether lines of a message follow
abbrev pub begins_data : Next → Bool
begins_data Continue = false
begins_data BeginData = true
begins_data Closed = false

-- how a session goes on after what was done for it
abbrev pub way_after : Result Next CoreStop → Way
way_after (Ok Continue) = GoesOn
way_after (Ok BeginData) = GoesOn
way_after (Ok Closed) = Leaves
way_after (Err stop) = Over (By (ending_by stop))

-- the same where the run may be over
abbrev pub is_onward : Result Next CoreStop → Bool
is_onward (Ok next) = stays_open next
is_onward (Err stop) = false

abbrev pub is_granted : Result Next CoreStop → Bool
is_granted (Ok next) = begins_data next
is_granted (Err stop) = false

-- from what was done so far to what is done then, with the effects between
pub record LeadsTo (site : Site) (d e : Did) (a b : Seen) (fed : Result Next CoreStop)
    : Type 0 where
  pub more : List Effect
  pub effects : e.effects ≡ d.effects ++ more
  pub table : e.table ≡ table_after d.table more
  pub number : e.guest.number ≡ d.guest.number
  pub ran : Ran site.dirs d.table a b more (is_well fed)
  pub way : e.way ≡ way_after fed
  pub cause : (ending : Ending) → way_after fed ≡ Over (By ending)
      → HasCause ending e.table a b

-- what is kept where the session goes on
pub record Stays (site : Site) (d e : Did) (intake : Intake) (caller : Caller) : Type 0 where
  pub serves : Serves site intake e.table
  pub talks : Talks site caller e.guest
  pub peer : e.guest.peer ≡ d.guest.peer
  pub config : e.guest.config ≡ d.guest.config
  pub received : e.guest.received ≡ d.guest.received

-- the grant that was given, if one was asked for
abbrev pub granted_by : Bool → Result Next CoreStop → List Bool
granted_by asked fed = if asked then is_granted fed ∷ [] else []

-- these lines were answered
pub record Hears (site : Site) (d e : Did) (lines : List Line) (intake : Intake) (caller : Caller)
    (fed : Result Next CoreStop) : Type 0 where
  pub stays : Stays site d e intake caller
  pub answered : lines_heard e.guest ≡ lines_heard d.guest ++ lines
  pub grants : grants_of e.guest ≡ grants_of d.guest ++ granted_by (asked_after false lines) fed
  pub may_disconnect : asked_after false lines ≡ true → e.may_disconnect ≡ has_bytes_left e.guest

-- by a choice, a line was answered
pub record AnswersLine (j : JudgeSeen) (site : Site) (moment : ℕ) (d : Did) (line : Line)
    (a b : Seen)
    (intake : Intake) (caller : Caller) (fed : Result Next CoreStop) : Type 0 where
  pub choice : Choice
  pub meant : IsMeant j site moment d choice (Some line)
  pub does : LeadsTo site d (by_choice site moment d choice (Some line)) a b fed
  pub alive : is_ok fed ≡ true
      → Serves site intake (by_choice site moment d choice (Some line)).table
  pub hears : is_onward fed ≡ true
      → Hears site d (by_choice site moment d choice (Some line)) (line ∷ []) intake caller fed

-- what a message comes to by a choice
abbrev pub message_by : Site → ℕ → Did → Message → Choice → Did
message_by site moment d message (Normal said made whole) =
    accepts site moment d message made whole
message_by site moment d message (OutOfMemory whole) = says d out_of_memory_text whole
message_by site moment d message Disconnects = is_over d Cut
message_by site moment d message (SpoolFails made) =
    fails site moment d (Gives (mail_of message)) made
message_by site moment d message JudgeFails = is_over d Cut

-- at a message nothing is put to the judge, and what is made of it is what the configuration says
abbrev pub IsMessageMeant : Site → ℕ → Did → Message → Choice → Type 0
IsMessageMeant site moment d message (Normal said made whole) =
    (said ≡ Unasked) × IsMadeAt site moment d.table (Gives (mail_of message)) made
IsMessageMeant site moment d message (OutOfMemory whole) = Unit {0}
IsMessageMeant site moment d message Disconnects = Unit {0}
IsMessageMeant site moment d message JudgeFails = ⊥
IsMessageMeant site moment d message (SpoolFails made) =
    IsMadeAt site moment d.table (Gives (mail_of message)) made

-- what the judge said
abbrev pub said_in : Choice → Said
said_in (Normal said made whole) = said
said_in (OutOfMemory whole) = Unasked
said_in Disconnects = Unasked
said_in (SpoolFails made) = Unasked
said_in JudgeFails = Unasked

-- whether 452 4.3.1 was said
abbrev pub is_short : Choice → Bool
is_short (Normal said made whole) = false
is_short (OutOfMemory whole) = true
is_short Disconnects = false
is_short (SpoolFails made) = false
is_short JudgeFails = false

-- the line of a message is among those that were answered, but where the run ended at it
abbrev pub heard_chosen : Table → Choice → Did → Line → Did
heard_chosen table (Normal said made whole) d line =
    heard_where (not (is_spent table made)) d line said false (Some table.next)
heard_chosen table (OutOfMemory whole) d line = heard_line d line Unasked true None
heard_chosen table Disconnects d line = d
heard_chosen table (SpoolFails made) d line = d
heard_chosen table JudgeFails d line = d

-- the id that a message got
abbrev pub id_chosen : Table → Choice → Option ℕ
id_chosen table (Normal said made whole) = Some table.next
id_chosen table (OutOfMemory whole) = None
id_chosen table Disconnects = None
id_chosen table (SpoolFails made) = None
id_chosen table JudgeFails = None

-- the session of a caller was reset after the end of data
abbrev pub IsReset : Caller → Caller → Type 0
IsReset old new = (config : Config) (host peer : List ℕ) (heard : List Heard) (said says : Said)
    (a b : Bool) (i j : Option ℕ)
    → Speaks old.session config host peer
    (heard ++ record { line = DataEnd; said = said; short = a; id = i } ∷ [])
    → Speaks new.session config host peer
    (heard ++ record { line = DataEnd; said = says; short = b; id = j } ∷ [])

-- the session is as before, or was reset after 452 4.3.1
abbrev pub IsAnswered : Bool → Caller → Caller → Type 0
IsAnswered false old new = new ≡ old
IsAnswered true old new = IsReset old new

-- by a choice, a message was taken in or not
pub record AnswersMessage (site : Site) (moment : ℕ) (d : Did) (message : Message) (a b : Seen)
    (intake : Intake) (old new : Caller) (fed : Result Next CoreStop) : Type 0 where
  pub choice : Choice
  pub answers : choice ≢ Disconnects
  pub meant : IsMessageMeant site moment d message choice
  pub does : LeadsTo site d (message_by site moment d message choice) a b fed
  pub guest : (message_by site moment d message choice).guest ≡ d.guest
  pub serves : is_ok fed ≡ true → Serves site intake (message_by site moment d message choice).table
  pub caller : is_onward fed ≡ true → IsAnswered (is_short choice) old new
  pub granted : is_granted fed ≡ false

-- what some choices come to
abbrev pub reached : Site → ℕ → Did → List Choice → Did
reached site moment d choices = fold (answered site moment) d choices

-- by some choices, these lines were answered, or the first of them up to where the session or the
-- run ended
pub record AnswersLines (j : JudgeSeen) (site : Site) (moment : ℕ) (d : Did) (lines : List Line)
    (a b : Seen)
    (intake : Intake) (caller : Caller) (fed : Result Next CoreStop) : Type 0 where
  pub choices : List Choice
  pub meant : AreMeant j site moment d choices
  pub does : LeadsTo site d (reached site moment d choices) a b fed
  pub alive : is_ok fed ≡ true → Serves site intake (reached site moment d choices).table
  pub hears : is_onward fed ≡ true
      → Hears site d (reached site moment d choices) lines intake caller fed

-- by some choices, this is what came of a piece
pub record Feeds (j : JudgeSeen) (site : Site) (moment : ℕ) (table : Table) (g : Guest)
    (bytes : List ℕ)
    (a b : Seen) (intake : Intake) (caller : Caller) (fed : Result Next CoreStop) : Type 0 where
  pub choices : List Choice
  pub meant : AreMeant j site moment (fresh_start table (with_bytes g bytes)) choices
  pub ran : Ran site.dirs table a b
      (all_answered site moment table (with_bytes g bytes) choices).effects (is_well fed)
  pub way : (all_answered site moment table (with_bytes g bytes) choices).way ≡ way_after fed
  pub number : (all_answered site moment table (with_bytes g bytes) choices).guest.number ≡ g.number
  pub serves : is_ok fed ≡ true
      → Serves site intake (all_answered site moment table (with_bytes g bytes) choices).table
  pub keeps : is_onward fed ≡ true
      → Keeps site caller (all_answered site moment table (with_bytes g bytes) choices).guest
  pub cause : (ending : Ending) → way_after fed ≡ Over (By ending)
      → HasCause ending
      (all_answered site moment table (with_bytes g bytes) choices).table a b
