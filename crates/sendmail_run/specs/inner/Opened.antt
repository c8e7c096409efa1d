-- What a run that serves keeps of the queue that it opened, and how it ends. It need not be
-- believed: only private contracts cite it.
use Rattle.std.specs.Prelude.{◌≡◌, ℕ, ◌+◌, ◌≤◌, Bool, true, false, List, [], length, Option, Some, IfSome, Err}
use Rattle.mail_base.specs.Histories.{Gains, Rose}
use Rattle.mail_edge.specs.Seen.{ClockSeen}
use Rattle.link_edge.specs.Heard.{Heard}
use Rattle.link_edge.specs.Turns.{Fits}
use Rattle.link_edge.specs.declared.turn.Turn.{Turn}
use Rattle.spawn_edge.specs.Spawned.{Spawned}
use Rattle.spool_disk.specs.Disk.{FileMap}
use Rattle.spool_store.specs.Entries.{Table}
use Rattle.spool_store.specs.Openings.{IsNext}
use Rattle.spool_store.specs.Settled.{StandsFor}
use Rattle.spool_store.specs.Stores.{Holds, StoreSeen}
use Rattle.mail_core.specs.declared.act.Act.{Act}
use Rattle.mail_core.specs.declared.serving.Core.{Core}
use Rattle.mail_core.specs.Beginning.{IsStartMeant, Start, ticks}
use Rattle.mail_core.specs.Causes.{is_judge_fault}
use Rattle.mail_core.specs.Crews.{IsManned}
use Rattle.mail_core.specs.Effects.{readings_of}
use Rattle.mail_core.specs.Events.{ComesOf, IsHeardAt, event_of}
use Rattle.mail_core.specs.Judges.{JudgeSeen}
use Rattle.mail_core.specs.Plans.{Origin, OfFloor, OfRun, comes_from, is_own}
use Rattle.mail_core.specs.Seen.{Seen}
use Rattle.mail_core.specs.Sites.{Site}
use Rattle.mail_core.specs.Standing.{Begins, table_of}
use Rattle.mail_core.specs.inner.UnderWay.{IsUnderWay}
use Rattle.sendmail_run.specs.declared.serving_mode.ServeEnd.{ServeEnd}
use Rattle.sendmail_run.specs.declared.serving_mode.ServeEnd.TheVariants as ends
use Rattle.sendmail_run.specs.declared.task.Task.{Task}
use Rattle.sendmail_run.specs.Serving.{from_id}
use Rattle.sendmail_run.specs.Tasks.{is_run, plan_of}

-- a store is what an opening read of the files, where they are told: it has their first free id,
-- and holds a table that they stand for, and each of which they do with that id
pub record IsFound (dirs : List (List ℕ)) (told : Option FileMap) (store : StoreSeen) : Type 0 where
  pub first : IfSome told (λ f. IsNext dirs f store.next)
  pub some : Table
  pub stands : IfSome told (StandsFor dirs some)
  pub holds : Holds store some
  pub each : (f : FileMap) (table : Table) → told ≡ Some f → StandsFor dirs table f
      → Holds store (from_id store.next table)

-- a core begins a run over a table, where a run over the queue read its clock for its list
pub record HasBegun (site : Site) (core : Core) (table : Table) (a b : ClockSeen) : Type 0 where
  pub first : Option ℕ
  pub told : Gains a.told b.told (readings_of (ticks first))
  pub readings : b.readings ≡ a.readings + length (readings_of (ticks first))
  pub begins : Begins site core table first

-- a core over a store that was opened: it begins a run over each table that the store holds
pub record IsOpened (site : Site) (told : Option FileMap) (core : Core) (a b : ClockSeen)
    : Type 0 where
  pub store : StoreSeen
  pub found : IsFound site.dirs told store
  pub begins : (table : Table) → Holds store table → HasBegun site core table a b

-- its runners may take steps, whatever a spawner tells
abbrev pub AreManned : Core → Type 0
AreManned core = (spawner : Spawned) → IsManned (table_of core) spawner core.crew

-- so many turns of a run over a table, which goes on
pub record IsOn (j : JudgeSeen) (site : Site) (table : Table) (core : Core) (count : ℕ)
    (a b : Seen) : Type 0 where
  pub start : Start
  pub table_is : start.table ≡ table
  pub meant : IsStartMeant site site.plan start
  pub under : IsUnderWay j site start core count a b

-- the same over each table that the store held as it was opened
pub record IsGoing (j : JudgeSeen) (site : Site) (core : Core) (count : ℕ) (a b : Seen)
    : Type 0 where
  pub store : StoreSeen
  pub found : IsFound site.dirs a.spool.told store
  pub runs : (table : Table) → Holds store table → IsOn j site table core count a b

-- ---- turns

-- where a turn comes from: the floor told it, or the run makes it itself
abbrev pub origin_of : Bool → ℕ → Origin
origin_of true reading = OfFloor reading
origin_of false reading = OfRun reading

-- a turn that may come next, where the floor stood before, and stands now
pub record Comes (task : Task) (stopping : Bool) (before now : Heard) (turn : Turn) (told : Bool)
    (buffer : List ℕ) : Type 0 where
  pub fits : Fits turn buffer
  pub heard : IsHeardAt now turn
  pub comes : (reading : ℕ) → ComesOf (origin_of told reading) before now (event_of turn buffer)
  pub may : (reading : ℕ)
      → comes_from (plan_of task) stopping (origin_of told reading) (event_of turn buffer) ≡ true
  -- a run over the queue makes its turns itself
  pub own : is_run task ≡ true → is_own (event_of turn buffer) ≡ true
  pub alone : is_run task ≡ true → now ≡ before
  pub begun : now.begun ≡ before.begun
  pub faults : now.faults ≡ before.faults

-- the floor failed at a turn, and neither a run over the queue nor one behind a Stop asks for one
pub record FailsAt (task : Task) (stopping : Bool) (before now : Heard) : Type 0 where
  pub asked : is_run task ≡ false
  pub on : stopping ≡ false
  pub told : Gains before.told now.told []
  pub begun : now.begun ≡ before.begun
  pub later : before.faults ≤ now.faults
  pub rose : Rose before.faults now.faults

-- ---- ends

-- a run ended since files failed that the judge reads
abbrev pub has_lost_files : ServeEnd → Bool
has_lost_files ends.NotOpened = false
has_lost_files ends.NoMemory = false
has_lost_files ends.FloorFault = false
has_lost_files ends.Finished = false
has_lost_files (ends.Over stop) = is_judge_fault {T = Act} (Err stop)
has_lost_files (ends.TurnsSpent count) = false
