-- What a step does to table and devices (own).
use Rattle.std.specs.Prelude.{◌≡◌, ◌≢◌, ℕ, ◌≤◌, List, Option, Some, None, IfSome, Bool, true, false, not, Contains, Result, Ok, Err}
use Rattle.std.specs.List.{flat_map}
use Rattle.mail_base.specs.Histories.{Gains, Rose}
use Rattle.mail_base.specs.States.{NeedsBody}
use Rattle.mail_base.specs.declared.config.Config.{Config}
use Rattle.link_edge.specs.Dials.{DialSeen}
use Rattle.mailer_smtp.specs.Deliveries.{Counts}
use Rattle.spawn_edge.specs.Children.{is_running}
use Rattle.spawn_edge.specs.Spawned.{IsRunningAt, Spawned}
use Rattle.spool_disk.specs.Disk.{FileMap}
use Rattle.spool_disk.specs.Spooled.{Spooled}
use Rattle.spool_store.specs.Entries.{Stored, Table}
use Rattle.spool_store.specs.Moves.{Moves}
use Rattle.spool_store.specs.Settled.{StandsFor}
use Rattle.spool_store.specs.Stores.{Agrees, KeepsOthers}
use Rattle.queue_table.specs.Asked.{AreStoppable, IsFront, Leaves}
use Rattle.queue_table.specs.Calls.{AreDirs, HoldsTable, Stays, store}
use Rattle.queue_table.specs.Commands.{control_at}
use Rattle.queue_table.specs.Directories.{terms_of}
use Rattle.queue_table.specs.declared.table.Table.{Table as Kept}
use Rattle.queue_run.specs.declared.runner.Did.{Did}
use Rattle.queue_run.specs.declared.runner.Did.TheVariants as did
use Rattle.queue_run.specs.declared.runner.RunStop.{RunStop}
use Rattle.queue_run.specs.declared.runner.RunStop.TheVariants as stop
use Rattle.queue_run.specs.declared.runner.Runner.{Runner}
use Rattle.queue_run.specs.declared.runner.Running.{Running}
use Rattle.queue_run.specs.Deeds.{Deed, Talk, asked_in, born_in, dialled_in}
use Rattle.queue_run.specs.Holders.{Holder, holder_of}
use Rattle.queue_run.specs.Kinds.{Kind, kind_of}
use Rattle.queue_run.specs.Meant.{Ground, IsMeant}
use Rattle.queue_run.specs.Ready.{IsReady}
use Rattle.queue_run.specs.Steps.{By, Gives, Luck, Outgrows, Begins, Misses, Ends, Loses, Stepped, stepped}

-- all that is seen of the devices of a step
pub record Bench : Type 1 where
  pub spool : Spooled
  pub spawner : Spawned
  pub dialer : DialSeen

abbrev pub bench : Spooled → Spawned → DialSeen → Bench
bench spool spawner dialer = record { spool = spool; spawner = spawner; dialer = dialer }

-- these deeds lead from a to b: what becomes of files that stood for the table, and what a stop since
-- may leave, unless an entry has the last revision; what the others tell; no count falls
pub record Worked (dirs : List (List ℕ)) (table : Table) (a b : Bench) (deeds : List Deed)
    (well : Bool) : Type 0 where
  pub spool : AreStoppable asked_in table deeds
      → Moves a.spool b.spool (StandsFor dirs table) (Leaves asked_in dirs table deeds well)
      (IsFront asked_in dirs table deeds)
  pub frame : (f : FileMap)
      → Moves a.spool b.spool (λ g. g ≡ f) (KeepsOthers dirs f) (KeepsOthers dirs f)
  pub spawner : Gains a.spawner.told b.spawner.told (flat_map born_in deeds)
  pub dialer : Gains a.dialer.told b.dialer.told (flat_map dialled_in deeds)
  pub spool_faults : a.spool.faults ≤ b.spool.faults
  pub spawner_faults : a.spawner.faults ≤ b.spawner.faults
  pub dialer_faults : a.dialer.faults ≤ b.dialer.faults

-- ---- what is known between steps

-- a store holds the entries of a table, is of this configuration, and no call on it failed
pub record IsWhole (config : Config) (kept : Kept) : Type 0 where
  pub whole : (store kept).broken ≡ false
  pub terms : kept.terms ≡ terms_of config
  pub groups : AreDirs kept.terms (store kept).dirs

-- the child of a runner that is running was given by a spawner that tells, and isn't over
abbrev pub HasChild : Spawned → Runner → Type 0
HasChild spawner r = IfSome r.running (λ (run : Running). IsRunningAt spawner run.child)

-- whether a step leaves the entry held
abbrev pub holds_on : Did → Bool
holds_on did.Began = true
holds_on did.Waits = true
holds_on did.Recorded = true
holds_on did.Gave = true
holds_on did.Free = false

-- a runner after a step is the machine's holder, which is none where it is free
abbrev pub IsHolder : Did → Runner → Option Holder → Type 0
IsHolder did.Began r h = h ≡ Some (holder_of r)
IsHolder did.Waits r h = h ≡ Some (holder_of r)
IsHolder did.Recorded r h = h ≡ Some (holder_of r)
IsHolder did.Gave r h = h ≡ Some (holder_of r)
IsHolder did.Free r h = h ≡ None

-- every other runner is ready still
abbrev pub KeepsOthersReady : Kept → Kept → ℕ → Type 0
KeepsOthersReady old new id =
    (other : Runner) → other.id ≢ id → IsReady old other → IsReady new other

-- every other child runs still
abbrev pub KeepsChildren : Spawned → Spawned → Runner → Type 0
KeepsChildren a b r =
    (child : ℕ) → IfSome r.running (λ (run : Running). run.child ≢ child) → IsRunningAt a child
    → IsRunningAt b child

-- where a spawner tells, no child that ran before, of another runner, is the one that runs now
abbrev pub HasOwnChild : Spawned → Runner → Runner → Type 0
HasOwnChild a before now =
    IfSome a.told (λ history. (child : ℕ) → is_running child history ≡ true
    → IfSome before.running (λ (run : Running). run.child ≢ child)
    → IfSome now.running (λ (run : Running). run.child ≢ child))

-- ---- a step

-- a step that goes on
pub record ComesTo (config : Config) (old new : Kept) (before : Runner) (a b : Bench) (x : Stepped)
    (runner : Runner) (answer : Did) : Type 0 where
  pub goes : x.over ≡ None
  pub came : x.answer ≡ answer
  pub holder : IsHolder answer runner x.holder
  pub holds : HoldsTable new x.table
  pub whole : IsWhole config new
  pub agrees : IfSome b.spool.told (Agrees (store new))
  pub stays : Stays old new
  pub ready : holds_on answer ≡ true → IsReady new runner
  pub others : KeepsOthersReady old new before.id
  pub child : HasChild b.spawner runner
  pub children : KeepsChildren a.spawner b.spawner before
  pub own : HasOwnChild a.spawner before runner

abbrev pub Comes : Config → Kept → Kept → Runner → Bench → Bench → Stepped → Runner
    → Result Did RunStop → Type 0
Comes config old new before a b x runner (Ok answer) = ComesTo config old new before a b x runner answer
Comes config old new before a b x runner (Err cause) = x.over ≡ Some (By cause)

abbrev pub is_fault : RunStop → Bool
is_fault stop.SpoolFault = true
is_fault stop.FilesFault = false
is_fault stop.IdsSpent = false
is_fault stop.NoMemory = false

abbrev pub is_well : Result Did RunStop → Bool
is_well (Ok answer) = true
is_well (Err cause) = not (is_fault cause)

-- the spool's count rose where it failed
abbrev pub HasSpoolCause : Bench → Bench → Result Did RunStop → Type 0
HasSpoolCause a b (Ok answer) = b.spool.faults ≡ a.spool.faults
HasSpoolCause a b (Err stop.SpoolFault) = Rose a.spool.faults b.spool.faults
HasSpoolCause a b (Err cause) = b.spool.faults ≡ a.spool.faults

-- the spawner's count rose exactly where a start failed or a child was lost
abbrev pub HasSpawnerCause : ℕ → ℕ → Luck → Type 0
HasSpawnerCause before now (Misses letter start launch failed) = Rose before now
HasSpawnerCause before now (Loses failed) = Rose before now
HasSpawnerCause before now luck = now ≡ before

-- a dialer's counts before and after a delivery
pub record IsCounted (before now : DialSeen) (talk : Talk) : Type 0 where
  pub missed : talk.missed ≡ before.missed
  pub after : talk.missed_after ≡ now.missed
  pub faults : Counts before.faults now.faults talk.fault

-- the dialer's counts go as a delivery says, and where there is none it is as before
abbrev pub HasDialerCause : DialSeen → DialSeen → Luck → Type 0
HasDialerCause before now (Ends letter talk failed) = IsCounted before now talk
HasDialerCause before now luck = now ≡ before

-- the body that was read is that of the entry in the table
abbrev pub IsBodyOf : Table → ℕ → List ℕ → Type 0
IsBodyOf table id body =
    (s : Stored) → Contains table.entries s → s.id ≡ id → NeedsBody s.control → body ≡ s.body

abbrev pub IsRead : Table → ℕ → Luck → Type 0
IsRead table id (Outgrows letter failed) = IsBodyOf table id letter.body
IsRead table id (Begins letter start child missed) = IsBodyOf table id letter.body
IsRead table id (Misses letter start launch failed) = IsBodyOf table id letter.body
IsRead table id (Ends letter talk failed) = IsBodyOf table id letter.body
IsRead table id (Gives body rows bounce failed) = IsBodyOf table id body
IsRead table id luck = Unit {0}

abbrev pub kind_in : Ground → Table → Holder → Kind
kind_in ground table h =
    kind_of ground.config ground.maps ground.moment (control_at h.id table.entries) h

abbrev pub stepped_on : Ground → Table → Holder → Luck → Stepped
stepped_on ground table h luck =
    stepped ground.config ground.maps ground.moment table h luck

-- by some luck this is what happened in a step of a runner
pub record Steps (ground : Ground) (table : Table) (old new : Kept) (before after : Runner)
    (a b : Bench) (result : Result Did RunStop) : Type 0 where
  pub luck : Luck
  pub meant : IsMeant ground before.id (control_at before.id table.entries)
      (kind_in ground table (holder_of before)) luck
  pub read : (files : FileMap) → a.spool.told ≡ Some files
      → StandsFor (store old).dirs table files → IsRead table before.id luck
  pub worked : Worked (store old).dirs table a b
      (stepped_on ground table (holder_of before) luck).deeds (is_well result)
  pub comes : Comes ground.config old new before a b
      (stepped_on ground table (holder_of before) luck) after result
  pub spool_cause : HasSpoolCause a b result
  pub spawner_cause : HasSpawnerCause a.spawner.faults b.spawner.faults luck
  pub dialer_cause : HasDialerCause a.dialer b.dialer luck
