-- The places so far.
use Rattle.std.proofs.Common.{All}
use Rattle.queue_table.specs.Soundness.{IsTried}
use Rattle.table_samples.proofs.reserving.places_of.Given as goal

abbrev pub invariant-loop-place : goal.invariant-loop-place
invariant-loop-place l = All (IsTried l.rows) l.places
