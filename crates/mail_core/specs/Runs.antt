-- A whole run: the machine's turns are all that happened, and what was acknowledged is in the queue
-- (own).
use Rattle.std.specs.Prelude.{◌≡◌, ℕ, ◌+◌, ◌≤◌, List, ◌∷◌, ◌++◌, length, Option, Some, Bool, Contains}
use Rattle.mail_base.specs.Histories.{Gains}
use Rattle.mail_base.specs.Limits.{IsId}
use Rattle.mail_base.specs.Names.{name_of}
use Rattle.mail_base.specs.States.{NeedsBody}
use Rattle.mail_base.specs.declared.id.Kind.{Kind}
use Rattle.mail_base.specs.declared.id.Kind.TheVariants.{Df}
use Rattle.link_edge.specs.declared.event.FloorEvent.TheVariants.{Sent}
use Rattle.smtp_receive.specs.Replies.{stored_text}
use Rattle.spool_disk.specs.Disk.{FileMap, bytes_at}
use Rattle.spool_store.specs.Entries.{Stored, Table}
use Rattle.spool_store.specs.Queue.{IsLive}
use Rattle.spool_store.specs.Settled.{StandsFor, spot_of}
use Rattle.spool_store.specs.Stores.{KeepsOthers}
use Rattle.queue_table.specs.Asked.{AreStoppable, IsFront, Leaves}
use Rattle.queue_table.specs.Commands.{Command}
use Rattle.queue_table.specs.Soundness.{IsSound}
use Rattle.queue_run.specs.Deeds.{Asks}
use Rattle.mail_core.specs.Acks.{BeginsWith, StaysSound, put_by}
use Rattle.mail_core.specs.Beginning.{IsStartMeant, Start, beginning, run_over}
use Rattle.mail_core.specs.Effects.{Effect, Does, born_of, commanded, dialled_of, heard_of, readings_of, table_after}
use Rattle.mail_core.specs.Judges.{JudgeSeen}
use Rattle.mail_core.specs.Lasting.{EntryCame}
use Rattle.mail_core.specs.Machine.{Turn}
use Rattle.mail_core.specs.Meant.{AreRead, IsRunMeant}
use Rattle.mail_core.specs.Seen.{Seen}
use Rattle.mail_core.specs.Sites.{Site}

-- what became of an entry is in the table, a control file that is live says its control, and where
-- its body is wanted, its body file holds it
pub record IsKept (dirs : List (List ℕ)) (table : Table) (files : FileMap) (s : Stored)
    : Type 0 where
  pub now : Stored
  pub among : Contains table.entries now
  pub came : EntryCame s now
  pub kind : Kind
  pub control : IsLive dirs files (spot_of kind now) now.control
  pub body : NeedsBody now.control → bytes_at files (now.dir, name_of Df now.id) ≡ Some s.body

-- a command among these effects put in a message whose first entry has that id, and the files have
-- all its entries, as they came to be
pub record AreKept (dirs : List (List ℕ)) (table : Table) (effects : List Effect)
    (files : FileMap) (id : ℕ) : Type 0 where
  pub done : List Effect
  pub command : Command
  pub rest : List Effect
  pub whole : effects ≡ done ++ Does (Asks command) ∷ rest
  pub first : BeginsWith id (put_by (table_after table done) command)
  -- the files stand for the table after a front of the effects, which has what became of each entry
  pub stood : IsFront commanded dirs table effects files
  pub each : (s : Stored) → Contains (put_by (table_after table done) command) s
      → IsKept dirs (table_after table stood.done) files s

-- what the files are at the exit of a run: they stand for the table after its commands, but where
-- the spool failed, and they have all entries of the message of each final 250 that was sent
pub record IsLeft (site : Site) (table : Table) (effects : List Effect) (well : Bool)
    (told : Option FileMap) : Type 0 where
  pub files : FileMap
  pub told_is : told ≡ Some files
  pub leaves : Leaves commanded site.dirs table effects well files
  pub acked : (session id : ℕ) → IsId id
      → Contains (heard_of effects) (Sent session (stored_text id))
      → AreKept site.dirs table effects files id

-- the files are told, and what no call touches is in them as it was
pub record IsSpared (dirs : List (List ℕ)) (old : FileMap) (told : Option FileMap) : Type 0 where
  pub files : FileMap
  pub told_is : told ≡ Some files
  pub others : KeepsOthers dirs old files

-- these turns are all that happened from a to b, over files that stood for the table of the start
pub record Headline (j : JudgeSeen) (site : Site) (start : Start) (turns : List Turn) (a b : Seen)
    (well : Bool) : Type 0 where
  -- the list of a run over the queue is what it should be; what the judge said, what was made of
  -- messages, and the steps of runners, are those of the configuration
  pub begun : IsStartMeant site site.plan start
  pub meant : IsRunMeant j site (beginning start) turns
  -- the bodies that steps read are those of the table
  pub read : (files : FileMap) → a.spool.told ≡ Some files → StandsFor site.dirs start.table files
      → AreStoppable commanded start.table (run_over site start turns).effects
      → AreRead site (beginning start) turns
  -- floor, clock, spawner and dialer tell just what the machine does at these turns
  pub floor : Gains a.floor.told b.floor.told (heard_of (run_over site start turns).effects)
  pub clock : Gains a.clock.told b.clock.told (readings_of (run_over site start turns).effects)
  pub readings : b.clock.readings
      ≡ a.clock.readings + length (readings_of (run_over site start turns).effects)
  pub spawner : Gains a.hands.spawner.told b.hands.spawner.told
      (born_of (run_over site start turns).effects)
  pub dialer : Gains a.hands.dialer.told b.hands.dialer.told
      (dialled_of (run_over site start turns).effects)
  -- what the files are at the exit
  pub exit : (files : FileMap) → a.spool.told ≡ Some files → StandsFor site.dirs start.table files
      → AreStoppable commanded start.table (run_over site start turns).effects
      → IsSound start.table
      → IsLeft site start.table (run_over site start turns).effects well b.spool.told
  -- a stop at any moment since a leaves the table after a front of what was done
  pub images : (files : FileMap) → a.spool.told ≡ Some files → StandsFor site.dirs start.table files
      → AreStoppable commanded start.table (run_over site start turns).effects
      → (left : FileMap) → b.spool.left_since a.spool.moment left
      → IsFront commanded site.dirs start.table (run_over site start turns).effects left
  -- where the table is sound, so is the one after each front of what was done
  pub sound : IsSound start.table
      → StaysSound start.table (run_over site start turns).effects
  -- whatever the files were, at the exit and in each of these what no call touches is as it was
  pub spared : (files : FileMap) → a.spool.told ≡ Some files
      → IsSpared site.dirs files b.spool.told
  pub spared_images : (files : FileMap) → a.spool.told ≡ Some files
      → (left : FileMap) → b.spool.left_since a.spool.moment left
      → KeepsOthers site.dirs files left
  -- no count of faults falls
  pub floor_faults : a.floor.faults ≤ b.floor.faults
  pub spool_faults : a.spool.faults ≤ b.spool.faults
  pub spawner_faults : a.hands.spawner.faults ≤ b.hands.spawner.faults
  pub dialer_faults : a.hands.dialer.faults ≤ b.hands.dialer.faults
