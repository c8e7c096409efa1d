-- The table may be changed further.
use Rattle.std.specs.Prelude.{Some}
use Rattle.spool_disk.specs.Changes.{after_all}
use Rattle.table_samples.specs.Samples.{IsReady}
use Rattle.bench.proofs.table.put_often.Given as goal

abbrev pub invariant-loop : goal.invariant-loop
invariant-loop l = IsReady (Some (after_all l.spool.past l.spool.start)) l.table
