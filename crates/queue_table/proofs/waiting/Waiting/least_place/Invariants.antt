-- The least of those so far.
use Rattle.queue_table.specs.inner.Least.{IsLeastAt}
use Rattle.queue_table.proofs.waiting.Waiting.least_place.Given as goal

abbrev pub invariant-loop-place : goal.invariant-loop-place
invariant-loop-place l = IsLeastAt l.self l.moment l.entries l.place l.least
