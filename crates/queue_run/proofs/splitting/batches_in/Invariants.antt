-- The rows so far are in their batches.
use Rattle.std.proofs.Common.{◌≡◌}
use Rattle.queue_run.specs.Batches.{batches_of}
use Rattle.queue_run.specs.inner.Courses.{IsIndexed}
use Rattle.queue_run.proofs.splitting.batches_in.Given as goal

abbrev pub invariant-loop-row : goal.invariant-loop-row
invariant-loop-row l = record {
  batches : l.splitting.batches.items ≡ batches_of l.config l.yielded;
  indexed : IsIndexed l.config l.splitting.batches.items l.splitting.last.entries;
}
