-- When a runner may take a step (own).
use Rattle.std.specs.Prelude.{◌≡◌, ◌<◌, ℕ, List, [], ◌∷◌, All, Contains, IfSome, length, false, reverse}
use Rattle.spool_store.specs.declared.held.Held.{Held}
use Rattle.mail_base.specs.declared.control.Entry.{Entry}
use Rattle.mail_base.specs.declared.control.Row.{Row}
use Rattle.queue_table.specs.Calls.{store}
use Rattle.queue_table.specs.Reserves.{IsReserved}
use Rattle.queue_table.specs.Soundness.{IsTried}
use Rattle.queue_table.specs.declared.table.Table.{Table as Kept}
use Rattle.queue_run.specs.declared.batch.Batch.{Batch}
use Rattle.queue_run.specs.declared.runner.Runner.{Runner}
use Rattle.queue_run.specs.declared.runner.Running.{Running}
use Rattle.queue_run.specs.Batches.{is_among}

-- a batch has rows, each with a user, and they are still tried
pub record IsUntried (rows : List Row) (batch : Batch) : Type 0 where
  pub some : 0 < length batch.places
  pub users : length batch.users ≡ length batch.places
  pub each : All (IsTried rows) batch.places

-- two batches have no row in common
abbrev pub AreApart : List ℕ → Batch → Type 0
AreApart places other = All (λ place. is_among places place ≡ false) other.places

-- no two of these batches have one
abbrev pub AreAllApart : List Batch → Type 0
AreAllApart [] = Unit {0}
AreAllApart (batch ∷ batches) = All (AreApart batch.places) batches × AreAllApart batches

-- the record of a child's batch was reserved, and its rows are in none of the batches that are left
pub record IsAttempt (kept : Kept) (entry : Entry) (rest : List Batch) (r : Running)
    : Type 0 where
  pub reserved : IsReserved (store kept).entries r.reserved
  pub own : r.reserved.room.id ≡ entry.id
  pub control : r.reserved.room.control ≡ entry.control
  pub each : length r.outcomes.results ≡ length r.reserved.rows
  pub apart : All (AreApart r.reserved.rows) rest

-- since its claim only this runner changed its entry
pub record IsReady (kept : Kept) (r : Runner) : Type 0 where
  pub held : Held
  pub among : Contains (store kept).entries held
  pub is : held.entry.id ≡ r.id
  pub untried : All (IsUntried held.entry.control.rows) (reverse r.rest.items)
  pub apart : AreAllApart (reverse r.rest.items)
  pub running : IfSome r.running (IsAttempt kept held.entry (reverse r.rest.items))
