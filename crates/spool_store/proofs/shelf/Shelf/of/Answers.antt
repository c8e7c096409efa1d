-- All entries are taken over, in their order.
use Rattle.std.proofs.Common.{arith}
use Rattle.spool_store.proofs.Reopening.{shelf_ordered}
use Rattle.spool_store.proofs.shelf.Shelf.of.Goals as goal

pub invariant_of-result : goal.invariant_of-result
invariant_of-result c = (omega (arith, c.in_ok-held.held.ok, c.in_ok-held.held.small), shelf_ordered c.args.dirs c.args.entries c.args.next c.in_ok-held.held.items c.in_ok-held.ensures c.requires.order c.requires.fit)
