-- None so far.
use Rattle.std.proofs.Common.{◌≡◌, ℕ, ◌<◌, ◌≤◌, length}
use Rattle.std.specs.List.{slice_index_or}
use Rattle.mail_base.specs.declared.id.Kind.TheVariants.{Df}
use Rattle.spool_store.specs.declared.named.Named.{Named}
use Rattle.spool_store.proofs.judged.has_body.Given as goal

abbrev pub invariant-loop-place : goal.invariant-loop-place
invariant-loop-place l = record {
  none : (k : ℕ) (d : Named) → k < l.place → slice_index_or l.names k d ≡ record { dir = l.dir; kind = Df; id = l.fn.id } → ⊥;
  from : (k : ℕ) (d : Named) → l.place ≤ k → k < length l.names → l.fn.id ≤ (slice_index_or l.names k d).id;
}
