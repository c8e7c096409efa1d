-- What the step of one runner leaves of a crew.
use Rattle.std.specs.Prelude.{◌≡◌, ℕ, [], ◌∷◌, ◌++◌, map, filter, not, eqb, All, Option, Some, None, IfSome, option_to_list, Result, Ok, Err}
use Rattle.std.specs.Option.{option_map}
use Rattle.mail_base.specs.declared.config.Config.{Config}
use Rattle.mail_base.specs.declared.control.Entry.{Entry}
use Rattle.spool_disk.specs.Disk.{FileMap}
use Rattle.spawn_edge.specs.Spawned.{Spawned}
use Rattle.spool_store.specs.Entries.{Table}
use Rattle.spool_store.specs.Settled.{StandsFor}
use Rattle.spool_store.specs.Stores.{Agrees}
use Rattle.queue_table.specs.Calls.{HoldsTable, Stays, store}
use Rattle.queue_table.specs.Claims.{IsQuiet, lane_of}
use Rattle.queue_table.specs.Commands.{control_at}
use Rattle.queue_table.specs.declared.table.Table.{Table as Kept}
use Rattle.queue_table.specs.declared.waiting.Waiting.{Waiting}
use Rattle.queue_run.specs.Holders.{Holder, holder_of}
use Rattle.queue_run.specs.Meant.{Ground, IsMeant}
use Rattle.queue_run.specs.Steps.{By, Luck, Stepped}
use Rattle.queue_run.specs.Working.{Bench, HasDialerCause, HasSpawnerCause, HasSpoolCause, IsRead, IsWhole, Worked, is_well, kind_in, stepped_on}
use Rattle.queue_run.specs.declared.runner.Did.{Did}
use Rattle.queue_run.specs.declared.runner.Did.TheVariants as did
use Rattle.queue_run.specs.declared.runner.RunStop.{RunStop}
use Rattle.queue_run.specs.declared.runner.Runner.{Runner}
use Rattle.mail_core.specs.Holding.{without_id}
use Rattle.mail_core.specs.declared.crew.Crew.{Crew}
use Rattle.mail_core.specs.Crews.{AreAble, HasPlace, IsManned}

-- one that steps, and the others
pub record IsOut (kept : Kept) (spawner : Spawned) (crew : Crew) (r : Runner) : Type 0 where
  pub able : AreAble kept spawner (r ∷ crew.runners.items)
  pub held : All (HasPlace crew.waiting) (r ∷ crew.runners.items)
  pub quiet : IsQuiet crew.waiting (store kept).entries

-- an entry is held, and its holder is still out
pub record IsHolding (entry : Entry) (crew now : Crew) : Type 0 where
  pub runners : now.runners.items ≡ crew.runners.items
  pub list : now.list ≡ option_map (without_id entry.id) crew.list
  pub waiting : now.waiting ≡ record crew.waiting {
    holders = crew.waiting.holders ++ record {
      id = entry.id;
      lane = (lane_of crew.waiting entry.control.group).group;
    } ∷ [];
    quiet = 0;
  }

-- a runner stands behind the others
pub record IsPutBack (r : Runner) (crew now : Crew) : Type 0 where
  pub runners : now.runners.items ≡ crew.runners.items ++ r ∷ []
  pub list : now.list ≡ crew.list
  pub waiting : now.waiting ≡ record crew.waiting { quiet = now.waiting.quiet }

-- an entry isn't held any more
pub record IsFreed (id : ℕ) (crew now : Crew) : Type 0 where
  pub runners : now.runners.items ≡ crew.runners.items
  pub list : now.list ≡ crew.list
  pub waiting : now.waiting ≡ record crew.waiting {
    holders = filter (λ h. not (eqb h.id id)) crew.waiting.holders;
    quiet = 0;
  }

-- what becomes of the runner of an entry by the answer of its step
abbrev pub IsSettled : Did → ℕ → Runner → Crew → Crew → Type 0
IsSettled did.Free id r crew now = IsFreed id crew now
IsSettled did.Waits id r crew now = IsPutBack r crew now × (now.waiting ≡ crew.waiting)
IsSettled did.Began id r crew now = IsPutBack r crew now × (now.waiting.quiet ≡ 0)
IsSettled did.Recorded id r crew now = IsPutBack r crew now × (now.waiting.quiet ≡ 0)
IsSettled did.Gave id r crew now = IsPutBack r crew now × (now.waiting.quiet ≡ 0)

-- a result without its value
abbrev pub bare : {T : Type 0} → Result T RunStop → Result Did RunStop
bare (Ok x) = Ok did.Waits
bare (Err cause) = Err cause

-- who is held behind a step of the holder of an entry
abbrev pub KeepsHeld : ℕ → Option Holder → Waiting → Waiting → Type 0
KeepsHeld id None old new =
    new ≡ record old { holders = filter (λ h. not (eqb h.id id)) old.holders; quiet = 0 }
KeepsHeld id (Some h) old new = new ≡ record old { quiet = new.quiet }

-- a crew behind a step that goes on
pub record GoesOn (config : Config) (old new : Kept)
    (crew now : Crew) (id : ℕ) (b : Bench) (x : Stepped) : Type 0 where
  pub goes : x.over ≡ None
  pub holds : HoldsTable new x.table
  pub whole : IsWhole config new
  pub agrees : IfSome b.spool.told (Agrees (store new))
  pub stays : Stays old new
  pub manned : IsManned new b.spawner now
  pub runners : map holder_of now.runners.items
      ≡ map holder_of crew.runners.items ++ option_to_list x.holder
  pub waiting : KeepsHeld id x.holder crew.waiting now.waiting
  pub list : now.list ≡ crew.list

abbrev pub Goes : {T : Type 0} → Config → Kept → Kept
    → Crew → Crew → ℕ → Bench → Stepped → Result T RunStop → Type 0
Goes config old new crew now id b x (Ok done) = GoesOn config old new crew now id b x
Goes config old new crew now id b x (Err cause) = x.over ≡ Some (By cause)

-- the devices' counts rose where a step says so
pub record HasCauses {T : Type 0} (a b : Bench) (luck : Luck) (result : Result T RunStop)
    : Type 0 where
  pub spool : HasSpoolCause a b (bare result)
  pub spawner : HasSpawnerCause a.spawner.faults b.spawner.faults luck
  pub dialer : HasDialerCause a.dialer b.dialer luck

-- by some luck this is what happened in a step of a runner, which then is put back or let go
pub record Carries {T : Type 0} (ground : Ground) (table : Table) (old new : Kept)
    (r : Runner) (crew now : Crew)
    (a b : Bench) (result : Result T RunStop) : Type 0 where
  pub luck : Luck
  pub meant : IsMeant ground r.id (control_at r.id table.entries)
      (kind_in ground table (holder_of r)) luck
  pub read : (files : FileMap) → a.spool.told ≡ Some files
      → StandsFor (store old).dirs table files → IsRead table r.id luck
  pub worked : Worked (store old).dirs table a b
      (stepped_on ground table (holder_of r) luck).deeds (is_well (bare result))
  pub comes : Goes ground.config old new crew now r.id b
      (stepped_on ground table (holder_of r) luck) result
  pub causes : HasCauses a b luck result
