-- What the steps of one event come to, beside the turn itself. It need not be believed: only
-- private contracts cite it.
use Rattle.std.specs.Prelude.{◌≡◌, ℕ, ◌<◌, nat_eq, List, length, get_or, Some, None, Result, Option, Bool, true, false}
use Rattle.std.specs.List.{list_any}
use Rattle.mail_core.specs.declared.serving.Core.{Core}
use Rattle.mail_core.specs.Sites.{IsUnder, Site}
use Rattle.mail_core.specs.declared.caller.Caller.{Caller}
use Rattle.mail_core.specs.Guests.{Guest}
use Rattle.mail_core.specs.States.{State, Ending}
use Rattle.mail_core.specs.Machine.{Choices, handled, Opening, opened}
use Rattle.mail_core.specs.Standing.{Stands, Serves, Talks}
use Rattle.link_edge.specs.declared.event.Event.{Event}
use Rattle.mail_core.specs.declared.act.Act.{Act}
use Rattle.mail_core.specs.declared.serving.CoreStop.{CoreStop}
use Rattle.mail_core.specs.Causes.{EndsSo, ending_of, is_judge_fault, is_well}
use Rattle.mail_core.specs.Judges.{IsAsked, JudgeSeen}
use Rattle.mail_core.specs.Meant.{IsEventMeant}
use Rattle.mail_core.specs.Seen.{Seen, Ran}
use Rattle.mail_base.specs.Histories.{Gains}
use Rattle.mail_base.specs.declared.config.Config.{Config}
use Rattle.map_tables.specs.Answers.{Loaded}
use Rattle.link_edge.specs.Heard.{Heard}
use Rattle.mail_core.specs.Effects.{heard_of}
use Rattle.spool_disk.specs.Spooled.{Spooled}
use Rattle.spool_store.specs.Entries.{Table}
use Rattle.queue_table.specs.Calls.{Tallies}
use Rattle.queue_table.specs.declared.table.Table.{Table as Kept}
use Rattle.mail_core.specs.declared.intake.Intake.{Intake}

-- whether a caller has that number
abbrev pub is_caller : ℕ → Caller → Bool
is_caller session caller = nat_eq caller.number session

-- the caller at a place has that number
pub record HasAt (session : ℕ) (callers : List Caller) (place : ℕ) : Type 0 where
  pub within : place < length callers
  pub is : (d : Caller) → (get_or callers place d).number ≡ session

-- the place of the caller that has that number; where there is none, no caller has it
abbrev pub IsPlaceOf : ℕ → List Caller → Option ℕ → Type 0
IsPlaceOf session callers None = list_any (is_caller session) callers ≡ false
IsPlaceOf session callers (Some place) = HasAt session callers place

-- by some choices, what the machine does at an event, beside the turn itself, is what happened from
-- a to b; the core stands for its state where the run goes on, and else it ended the run so
pub record Steps (j : JudgeSeen) (site : Site) (m : State) (event : Event) (a b : Seen)
    (core : Core)
    (went : Result Act CoreStop) : Type 0 where
  pub choices : Choices event
  pub meant : IsEventMeant j site m event choices
  pub ran : Ran site.dirs m.table a b (handled site m event choices).effects (is_well went)
  pub stands : ending_of went ≡ None → Stands site core (handled site m event choices).state
  pub ended : (ending : Ending) → ending_of went ≡ Some ending
      → EndsSo ending (handled site m event choices).state a b

-- what each step keeps, whatever it does: what the judge says; the floor's own count, and how it
-- was begun; and, unless a fault of the spool ended the run, the spool's count and what the table
-- has of its files
pub record Behaves {T : Type 0} (j k : JudgeSeen) (f g : Heard) (s t : Spooled) (kept : Kept)
    (went : Result T CoreStop) : Type 0 where
  pub asked : IsAsked j k (is_judge_fault went)
  pub own : g.faults ≡ f.faults
  pub begun : g.begun ≡ f.begun
  pub calm : is_well went ≡ true → t.faults ≡ s.faults
  pub tallied : is_well went ≡ true → Tallies kept t

-- what is done at an opening, by some choice
pub record IsOpened (site : Site) (m : State) (session : ℕ) (peer : List ℕ) (before now : Heard)
    (core : Core) : Type 0 where
  pub choice : Opening
  pub told : Gains before.told now.told (heard_of (opened site m session peer choice).effects)
  pub stands : Stands site core (opened site m session peer choice).state

-- an intake that takes messages in, and a caller whose session it answers under a configuration
-- and maps
pub record IsReady (intake : Intake) (caller : Caller) (config : Config) (maps : Loaded)
    : Type 0 where
  pub site : Site
  pub under : IsUnder site config maps
  pub table : Table
  pub guest : Guest
  pub serves : Serves site intake table
  pub talks : Talks site caller guest
