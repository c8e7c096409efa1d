-- The parts so far and those of the places that are left are all.
use Rattle.std.proofs.Common.{◌≡◌, ◌++◌}
use Rattle.queue_plan.specs.inner.Buckets.{parts_at}
use Rattle.queue_plan.proofs.parting.add_parts.Given as goal

abbrev pub invariant-loop-portion : goal.invariant-loop-portion
invariant-loop-portion l = record {
  size : l.portion-iterator.size ≡ l.size;
  parts : l.cuts ++ parts_at l.heading l.rows l.size l.portion-iterator.rest.now ≡ l.fn.cuts ++ parts_at l.heading l.rows l.size l.places;
}
