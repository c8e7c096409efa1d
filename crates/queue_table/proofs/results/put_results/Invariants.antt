-- What is left gives what all give.
use Rattle.std.proofs.Common.{◌≡◌, length}
use Rattle.qf_format.specs.Valid.{AreRows}
use Rattle.queue_table.specs.Results.{with_results}
use Rattle.queue_table.proofs.results.put_results.Given as goal

abbrev pub invariant-places : goal.invariant-places
invariant-places l = record {
  is : with_results l.old l.left l.more l.rows.items ≡ with_results l.old l.places l.outcomes l.fn.rows.items;
  form : AreRows l.fn.rows.items → AreRows l.rows.items;
}

abbrev pub decreases-places : goal.decreases-places
decreases-places l = length l.left
