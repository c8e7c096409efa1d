-- Why a run ends (own).
use Rattle.std.specs.Prelude.{◌≡◌, ◌+◌, ◌<◌, Option, Some, None, Result, Ok, Err, Bool, true, false}
use Rattle.mail_base.specs.Histories.{Rose}
use Rattle.mail_base.specs.Limits.{most_rows}
use Rattle.spool_store.specs.Entries.{Table}
use Rattle.queue_run.specs.Backs.{Drawer, IsSteady}
use Rattle.queue_run.specs.declared.runner.RunStop.{RunStop}
use Rattle.queue_run.specs.declared.runner.RunStop.TheVariants as run_stops
use Rattle.mail_core.specs.declared.act.Act.{Act}
use Rattle.mail_core.specs.declared.act.Act.TheVariants.{Went, Ended}
use Rattle.mail_core.specs.declared.serving.CoreStop.{CoreStop}
use Rattle.mail_core.specs.declared.serving.CoreStop.TheVariants as stops
use Rattle.mail_made.specs.Messages.{last_id}
use Rattle.mail_core.specs.Seen.{Seen}
use Rattle.mail_core.specs.States.{Ending, Finished, SpoolFault, IdsSpent, FilesFault, NoMemory, By, State}

-- the ending that an error of the core is
abbrev pub ending_by : CoreStop → Ending
ending_by stops.SpoolFault = SpoolFault
ending_by stops.IdsSpent = IdsSpent
ending_by stops.FilesFault = FilesFault
ending_by stops.NoMemory = NoMemory

-- the error that a runner's is
abbrev pub stop_of : RunStop → CoreStop
stop_of run_stops.SpoolFault = stops.SpoolFault
stop_of run_stops.IdsSpent = stops.IdsSpent
stop_of run_stops.FilesFault = stops.FilesFault
stop_of run_stops.NoMemory = stops.NoMemory

-- the core's answer is that of its runners
abbrev pub lifted : Result Act RunStop → Result Act CoreStop
lifted (Ok act) = Ok act
lifted (Err stop) = Err (stop_of stop)

-- the ending that a turn brought, if it did
abbrev pub ending_of : Result Act CoreStop → Option Ending
ending_of (Ok Went) = None
ending_of (Ok Ended) = Some Finished
ending_of (Err stop) = Some (ending_by stop)

-- whether the spool didn't fail
abbrev pub is_well : {T : Type 0} → Result T CoreStop → Bool
is_well (Ok done) = true
is_well (Err stops.SpoolFault) = false
is_well (Err stops.IdsSpent) = true
is_well (Err stops.FilesFault) = true
is_well (Err stops.NoMemory) = true

-- whether the judge failed
abbrev pub is_judge_fault : {T : Type 0} → Result T CoreStop → Bool
is_judge_fault (Ok done) = false
is_judge_fault (Err stops.SpoolFault) = false
is_judge_fault (Err stops.IdsSpent) = false
is_judge_fault (Err stops.FilesFault) = true
is_judge_fault (Err stops.NoMemory) = false

-- why a run ended so, where a turn led from a to b, with the table after it: the count of the spool
-- rose; a message was to be taken in, or one to be returned or a warning to be sent, and fewer ids
-- are left than it may have rows, which are no fewer than its parts. That all was done is what the
-- machine's state says of it (`over`), and that the judge's count rose is said beside (`IsAsked`);
-- want of memory has no count
abbrev pub HasCause : Ending → Table → Seen → Seen → Type 0
HasCause Finished table a b = Unit {0}
HasCause SpoolFault table a b = Rose a.spool.faults b.spool.faults
HasCause IdsSpent table a b = last_id + 1 < table.next + most_rows
HasCause FilesFault table a b = Unit {0}
HasCause NoMemory table a b = Unit {0}

-- the run ended so in a turn that led from a to b, with this state after it, and for its cause
pub record EndsSo (ending : Ending) (state : State) (a b : Seen) : Type 0 where
  pub over : state.over ≡ Some (By ending)
  pub cause : HasCause ending state.table a b

-- what draws receivers was asked, and failed or not: no answer that it tells has changed, and its
-- count rose only where it failed
pub record IsDrawn (before now : Drawer) (failed : Bool) : Type 0 where
  pub steady : IsSteady before now
  pub rose : failed ≡ true → Rose before.answerer.faults now.answerer.faults
  pub calm : failed ≡ false → now.answerer.faults ≡ before.answerer.faults
