-- The parts so far and those of the headings that are left are all.
use Rattle.std.proofs.Common.{◌≡◌, ◌++◌, flat_map}
use Rattle.queue_plan.specs.inner.Buckets.{parts_in}
use Rattle.queue_plan.proofs.parting.parts_in.Given as goal

abbrev pub invariant-loop-heading : goal.invariant-loop-heading
invariant-loop-heading l = l.cuts ++ flat_map (parts_in l.config l.rows) l.heading-iterator ≡ flat_map (parts_in l.config l.rows) l.initial.heading-iterator
