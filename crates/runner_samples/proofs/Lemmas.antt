-- Steps lead from what stands to what stands.
use Rattle.std.proofs.Common.{◌≡◌, ℕ, List, [], ◌∷◌, map, false, Option, None, Some, Result, Ok, Err, refl, sym, subst, ◌∙◌, ap}
use Rattle.std.specs.Prelude.{Contains, IfOk, IfSome}
use Rattle.std.specs.List.{AllZip}
use Rattle.std.specs.Option.{option_map}
use Rattle.mail_base.specs.declared.config.Config.{Config}
use Rattle.mail_base.specs.declared.fault.NoMemory.{NoMemory}
use Rattle.map_tables.specs.Answers.{Loaded}
use Rattle.spawn_edge.specs.Spawned.{IsRunningAt, Spawned}
use Rattle.spool_store.specs.Entries.{Stored, Table}
use Rattle.spool_disk.specs.Spooled.{Spooled}
use Rattle.spool_store.specs.Keepers.{seen}
use Rattle.spool_store.specs.Stores.{Holds, IsAtRest, IsHeld, StoreSeen}
use Rattle.spool_store.specs.declared.queue.Queue.{Queue}
use Rattle.spool_store.specs.declared.held.Held.{Held}
use Rattle.queue_table.specs.Calls.{AreDirs, HoldsTable, store}
use Rattle.queue_table.specs.Directories.{terms_of}
use Rattle.queue_table.specs.declared.table.Table.{Table as Kept}
use Rattle.queue_run.specs.Claims.{IsClaimed}
use Rattle.queue_run.specs.Holders.{Holder, attempt_of, holder_of}
use Rattle.queue_run.specs.Meant.{Ground}
use Rattle.queue_run.specs.Ready.{IsReady}
use Rattle.queue_run.specs.Working.{Bench, HasChild, Steps}
use Rattle.queue_run.specs.declared.runner.Did.{Did}
use Rattle.queue_run.specs.declared.runner.RunStop.{RunStop}
use Rattle.queue_run.specs.declared.runner.Runner.{Runner}
use Rattle.queue_run.specs.declared.runner.Running.{Running}
use Rattle.runner_samples.specs.Runs.{GoesOn, IsStanding}

-- an entry without its body
abbrev bare : Held → Stored
bare h = record { id = h.entry.id; dir = h.entry.dir; control = h.entry.control; body = [] }

-- the table of a store, without bodies
abbrev table_of : StoreSeen → Table
table_of s = record { entries = map bare s.entries; next = s.next }

bare_held : (entries : List Held) → AllZip IsHeld entries (map bare entries)
bare_held [] = tt
bare_held (h ∷ entries) = (record { id = refl; dir = refl; control = refl }, bare_held entries)

holds_bare : (s : StoreSeen) → Holds s (table_of s)
holds_bare s = record { entries = bare_held s.entries; next = refl }

goes_so : (ground : Ground) (table : Table) (old new : Kept) (before after : Runner) (a b : Bench) (result : Result Did RunStop) → Steps ground table old new before after a b result → IfOk result (GoesOn ground.config new b.spool b.spawner after)
goes_so ground table old new before after a b (Ok did) s =
    let stands : IsStanding ground.config new b.spool = record { whole = s.comes.whole; rest = s.comes.agrees } in
    record {
      stands = stands;
      on = λ e. record { stands = stands; ready = s.comes.ready e; child = s.comes.child };
    }
goes_so ground table old new before after a b (Err cause) s = tt

-- behind a step that is one of a table, whatever its bodies, the table stands
pub goes_on : (ground : Ground) (old new : Kept) (before after : Runner) (a b : Bench) (result : Result Did RunStop) → ((table : Table) → HoldsTable old table → Steps ground table old new before after a b result) → IfOk result (GoesOn ground.config new b.spool b.spawner after)
goes_on ground old new before after a b result step =
    goes_so ground (table_of (store old)) old new before after a b result (step (table_of (store old)) (holds_bare (store old)))

no_child : (spawned : Spawned) (running : Option Running) → option_map attempt_of running ≡ None → IfSome running (λ (run : Running). IsRunningAt spawned run.child)
no_child spawned None e = tt
no_child spawned (Some run) e = absurd (cc e)

-- a runner that was claimed just now has no child
claimed : (kept : Kept) (config : Config) (maps : Loaded) (id : ℕ) (r : Runner) (spawned : Spawned) → r.id ≡ id → IsReady kept r → ((h : Held) → Contains (store kept).entries h → h.entry.id ≡ id → IsClaimed config maps id h.entry.control (holder_of r)) → HasChild spawned r
claimed kept config maps id r spawned own ready claims =
    no_child spawned r.running (ap (λ (h : Holder). h.running) (claims ready.held ready.among (ready.is ∙ own)).is)

-- so a claim that succeeds begins none
pub claimed_ok : (kept : Kept) (config : Config) (maps : Loaded) (id : ℕ) (result : Result Runner NoMemory) (spawned : Spawned) → IfOk result (λ r. r.id ≡ id) → IfOk result (IsReady kept) → ((h : Held) → Contains (store kept).entries h → h.entry.id ≡ id → IfOk result (λ r. IsClaimed config maps id h.entry.control (holder_of r))) → IfOk result (HasChild spawned)
claimed_ok kept config maps id (Ok r) spawned own ready claims = claimed kept config maps id r spawned own ready claims
claimed_ok kept config maps id (Err e) spawned own ready claims = tt

-- a table over a queue that was opened with the directories of its terms stands
pub over_standing : (config : Config) (spooled : Spooled) (kept : Kept) (queue : Queue) (dirs : List (List ℕ)) → kept ≡ record { queue = queue; terms = terms_of config } → (seen queue).dirs ≡ dirs → (seen queue).broken ≡ false → AreDirs (terms_of config) dirs → IsAtRest (seen queue) spooled → IsStanding config kept spooled
over_standing config spooled kept queue dirs is same sound are rest = subst (λ k. IsStanding config k spooled) (sym is) (record {
  whole = record { whole = sound; terms = refl; groups = subst (AreDirs (terms_of config)) (sym same) are };
  rest = rest;
})
