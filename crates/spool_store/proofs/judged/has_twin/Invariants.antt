-- None so far.
use Rattle.std.proofs.Common.{◌≡◌, ◌≢◌, ℕ, ◌<◌, ◌≤◌, length}
use Rattle.std.specs.List.{slice_index_or}
use Rattle.spool_store.specs.declared.named.Found.{Found}
use Rattle.spool_store.specs.inner.Finds.{spot_named}
use Rattle.spool_store.proofs.judged.has_twin.Given as goal

abbrev pub invariant-loop-place : goal.invariant-loop-place
invariant-loop-place l = record {
  none : (k : ℕ) (d : Found) → k < l.place → ((slice_index_or l.found k d).named.id ≡ l.named.id) × (spot_named l.dirs (slice_index_or l.found k d).named ≢ spot_named l.dirs l.named) → ⊥;
  from : (k : ℕ) (d : Found) → l.place ≤ k → k < length l.found → l.named.id ≤ (slice_index_or l.found k d).named.id;
}
