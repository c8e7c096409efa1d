-- What a turn comes to (own).
use Rattle.std.specs.Prelude.{◌≡◌, ℕ, ◌+◌, ◌≤◌, List, [], ◌∷◌, take, None, Some, IfSome, Result, is_ok}
use Rattle.mail_base.specs.Histories.{Gains}
use Rattle.mail_edge.specs.Seen.{ClockSeen}
use Rattle.link_edge.specs.Heard.{Heard, IsSoundAt}
use Rattle.link_edge.specs.Sessions.{Follows}
use Rattle.link_edge.specs.declared.event.Event.{Event}
use Rattle.link_edge.specs.declared.event.Event.TheVariants.{Opens, Brings, Closes, Rests, Stops}
use Rattle.link_edge.specs.declared.event.FloorEvent.TheVariants.{Took}
use Rattle.link_edge.specs.declared.turn.Turn.{Turn}
use Rattle.link_edge.specs.declared.turn.Turn.TheVariants.{Opened, Piece, Closed, Idle, Stop}
use Rattle.spool_disk.specs.Disk.{FileMap}
use Rattle.spool_store.specs.Settled.{StandsFor}
use Rattle.mail_core.specs.declared.act.Act.{Act}
use Rattle.mail_core.specs.declared.serving.Core.{Core}
use Rattle.mail_core.specs.declared.serving.CoreStop.{CoreStop}
use Rattle.mail_core.specs.Causes.{EndsSo, ending_of, is_well}
use Rattle.mail_core.specs.Judges.{JudgeSeen}
use Rattle.mail_core.specs.Machine.{Choices, at_moment, turned}
use Rattle.mail_core.specs.Meant.{IsEventMeant, IsEventRead}
use Rattle.mail_core.specs.Plans.{Origin, OfFloor, OfRun, reading_of}
use Rattle.mail_core.specs.Seen.{Seen, RanBy}
use Rattle.mail_core.specs.Sites.{Site}
use Rattle.mail_core.specs.Standing.{Stands}
use Rattle.mail_core.specs.States.{Ending, State, Step}

-- the event of a turn, with its bytes
abbrev pub event_of : Turn → List ℕ → Event
event_of (Opened session count) buf = Opens session (take count buf)
event_of (Piece session count) buf = Brings session (take count buf)
event_of (Closed session) buf = Closes session
event_of Idle buf = Rests
event_of Stop buf = Stops

-- a floor told this turn
pub record IsTold (before now : Heard) (event : Event) : Type 0 where
  pub told : Gains before.told now.told (Took event ∷ [])
  pub follows : IfSome before.told (λ history. Follows history (Took event))
  pub faults : before.faults ≤ now.faults

-- or the run made it, and the floor wasn't asked
abbrev pub ComesOf : Origin → Heard → Heard → Event → Type 0
ComesOf (OfFloor reading) before now event = IsTold before now event
ComesOf (OfRun reading) before now event = now ≡ before

-- a turn with its event came, and then the clock was read
pub record IsTaken (origin : Origin) (before now : Heard) (clock read : ClockSeen) (event : Event)
    : Type 0 where
  pub comes : ComesOf origin before now event
  pub clock_told : Gains clock.told read.told (reading_of origin ∷ [])
  pub readings : read.readings ≡ clock.readings + 1

-- the step of the machine at a turn, by some choices
abbrev pub step_of : Site → State → (event : Event) → Origin → Choices event → Step
step_of site m event origin choices =
    turned site m (record { event = event; origin = origin; choices = choices })

-- by some choices, which are as the configuration means them and of what the table has, the
-- machine's step is what happened from a to b; the core stands for its state where the run goes on,
-- and else it ended the run so
pub record Turns (j : JudgeSeen) (site : Site) (m : State) (event : Event) (origin : Origin)
    (a b : Seen) (core : Core) (went : Result Act CoreStop) : Type 0 where
  pub choices : Choices event
  pub meant : IsEventMeant j site (at_moment m (reading_of origin)) event choices
  pub read : (files : FileMap) → a.spool.told ≡ Some files → StandsFor site.dirs m.table files
      → IsEventRead m event choices
  pub ran : RanBy site.dirs m.table a b (step_of site m event origin choices).effects
      (is_well went) (is_ok went)
  pub stands : ending_of went ≡ None → Stands site core (step_of site m event origin choices).state
  pub ended : (ending : Ending) → ending_of went ≡ Some ending
      → EndsSo ending (step_of site m event origin choices).state a b

-- the session of an opening or a piece is open, where the floor tells
abbrev pub IsHeardAt : Heard → Turn → Type 0
IsHeardAt floor (Opened session count) = IsSoundAt floor session
IsHeardAt floor (Piece session count) = IsSoundAt floor session
IsHeardAt floor (Closed session) = Unit {0}
IsHeardAt floor Idle = Unit {0}
IsHeardAt floor Stop = Unit {0}
