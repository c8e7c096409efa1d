-- The places so far.
use Rattle.std.proofs.Common.{◌≡◌, take}
use Rattle.queue_plan.specs.inner.Buckets as spec
use Rattle.queue_plan.proofs.buckets.gathered.Given as goal

abbrev pub invariant-loop-place : goal.invariant-loop-place
invariant-loop-place l = l.buckets.entries ≡ spec.gathered (take l.place l.headings)
