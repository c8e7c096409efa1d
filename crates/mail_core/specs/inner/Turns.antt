-- What a turn leaves in which nothing came, or a Stop.
use Rattle.std.specs.Prelude.{◌≡◌, ℕ, List, [], ◌∷◌, map, Option, Some, None, IfSome, Result, Ok, Err}
use Rattle.spool_disk.specs.Disk.{FileMap}
use Rattle.spool_store.specs.Settled.{StandsFor}
use Rattle.spool_store.specs.Stores.{Agrees}
use Rattle.queue_table.specs.Calls.{HoldsTable, Stays, store}
use Rattle.queue_table.specs.declared.table.Table.{Table as Kept}
use Rattle.queue_run.specs.Deeds.{Deed}
use Rattle.queue_run.specs.Steps.{Luck}
use Rattle.queue_run.specs.Working.{Bench, IsWhole, Worked, is_well}
use Rattle.queue_run.specs.declared.runner.RunStop.{RunStop}
use Rattle.queue_run.specs.declared.runner.Runner.{Runner}
use Rattle.mail_core.specs.Effects.{Does}
use Rattle.mail_core.specs.Idling.{Carrying, Claiming, Idling, Quiet, Starving, ends_list, ending_by, idle, stopped}
use Rattle.mail_core.specs.Judges.{JudgeSeen}
use Rattle.mail_core.specs.Resting.{IsRestMeant, IsRestRead, IsStopMeant, IsStopRead}
use Rattle.mail_core.specs.Sites.{Site}
use Rattle.mail_core.specs.States.{By, Finished, Finish, State, Step}
use Rattle.mail_core.specs.declared.act.Act.{Act}
use Rattle.mail_core.specs.declared.act.Act.TheVariants.{Went, Ended}
use Rattle.mail_core.specs.declared.crew.Crew.{Crew}
use Rattle.mail_core.specs.inner.Carrying.{HasCauses, bare}
use Rattle.mail_core.specs.Crews.{IsCrew, IsManned}

-- a run over the queue is over where nothing is left of its list and nobody holds an entry
abbrev pub act_by : Option (List ℕ) → List Runner → Act
act_by None runners = Went
act_by (Some []) [] = Ended
act_by (Some []) (r ∷ rs) = Went
act_by (Some (id ∷ ids)) runners = Went

-- how a run is over by what a turn answers
abbrev pub finish_by : Result Act RunStop → Option Finish
finish_by (Ok Went) = None
finish_by (Ok Ended) = Some (By Finished)
finish_by (Err cause) = Some (By (ending_by cause))

-- a crew behind a turn with which the run isn't ended by a fault
pub record IsLeft (site : Site) (step : Step) (old new : Kept) (crew : Crew) (b : Bench)
    : Type 0 where
  pub stands : IsCrew site crew step.state
  pub manned : IsManned new b.spawner crew
  pub holds : HoldsTable new step.state.table
  pub whole : IsWhole site.config new
  pub agrees : IfSome b.spool.told (Agrees (store new))
  pub stays : Stays old new

abbrev pub Leaves : Site → Step → Kept → Kept → Crew → Bench → Result Act RunStop → Type 0
Leaves site step old new crew b (Ok act) = IsLeft site step old new crew b
Leaves site step old new crew b (Err cause) = Unit {0}

-- what the step of the machine was, as far as table and devices see it
pub record Happened (site : Site) (m : State) (step : Step) (old new : Kept) (crew : Crew)
    (a b : Bench) (result : Result Act RunStop) : Type 0 where
  pub deeds : List Deed
  pub effects : step.effects ≡ map Does deeds
  pub worked : Worked (store old).dirs m.table a b deeds (is_well (bare result))
  pub over : step.state.over ≡ finish_by result
  pub left : Leaves site step old new crew b result

-- the luck in a choice
abbrev pub luck_in : Idling → Option Luck
luck_in (Claiming id rows luck) = Some luck
luck_in Starving = None
luck_in (Carrying luck) = Some luck
luck_in Quiet = None

-- no call on a device failed
pub record AreCalm (a b : Bench) : Type 0 where
  pub spool : b.spool.faults ≡ a.spool.faults
  pub spawner : b.spawner.faults ≡ a.spawner.faults
  pub dialer : b.dialer ≡ a.dialer

-- the devices' counts rose where the step says so that was taken, if one was
abbrev pub AreCaused : Bench → Bench → Option Luck → Result Act RunStop → Type 0
AreCaused a b None result = AreCalm a b
AreCaused a b (Some luck) result = HasCauses a b luck result

-- by some choice, which is meant and read, this is what happened in a turn in which nothing came
pub record Rests (j : JudgeSeen) (site : Site) (m : State) (old new : Kept) (crew : Crew)
    (a b : Bench) (result : Result Act RunStop) : Type 0 where
  pub choice : Idling
  pub meant : IsRestMeant j site m choice
  pub read : (files : FileMap) → a.spool.told ≡ Some files
      → StandsFor (store old).dirs m.table files → IsRestRead m choice
  pub happened : Happened site m (ends_list site (idle site m choice)) old new crew a b result
  pub causes : AreCaused a b (luck_in choice) result

-- and in one behind a Stop
pub record Stops (j : JudgeSeen) (site : Site) (m : State) (old new : Kept) (crew : Crew)
    (a b : Bench) (result : Result Act RunStop) : Type 0 where
  pub choice : Option Luck
  pub meant : IsStopMeant j site m choice
  pub read : (files : FileMap) → a.spool.told ≡ Some files
      → StandsFor (store old).dirs m.table files → IsStopRead m choice
  pub happened : Happened site m (stopped site m choice) old new crew a b result
  pub causes : AreCaused a b choice result
