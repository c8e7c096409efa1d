-- The rows so far, each once, and what tells them apart.
use Rattle.std.proofs.Common.{◌≡◌, map}
use Rattle.queue_plan.specs.Rows as spec
use Rattle.queue_plan.specs.inner.Targets.{target_of}
use Rattle.queue_plan.proofs.rows.firsts_of.Given as goal

abbrev pub invariant-loop-row : goal.invariant-loop-row
invariant-loop-row l = record {
  kept : l.kept ≡ spec.distinct l.yielded;
  met : l.met.keys ≡ map target_of l.kept;
}
