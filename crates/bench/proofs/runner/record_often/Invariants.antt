-- The table may be changed further.
use Rattle.std.specs.Prelude.{None}
use Rattle.table_samples.specs.Samples.{IsReady}
use Rattle.bench.proofs.runner.record_often.Given as goal

abbrev pub invariant-loop : goal.invariant-loop
invariant-loop l = IsReady None l.table
