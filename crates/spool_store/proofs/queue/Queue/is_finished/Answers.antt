-- The entry at the id's place is the only one of the id.
use Rattle.std.proofs.Common.{ap}
use Rattle.spool_store.specs.declared.held.Held.{Held}
use Rattle.spool_store.proofs.Shelving.{held_is}
use Rattle.spool_store.proofs.queue.Queue.is_finished.Goals as goal

pub returns-clause-is : goal.returns-clause-is
returns-clause-is c = λ h k has. ap (λ (q : Held). q.finished) (held_is c.args.self.now.shelf.items c.items-items.result.now c.args.id c.place-place.result c.index-items-place.result h c.items-items.ensures.items c.items-items.ensures.ascending c.place-place.ensures.at k has)
