-- The entry at the id's place is the only one of the id.
use Rattle.std.proofs.Common.{ap}
use Rattle.spool_store.specs.declared.held.Held.{Held}
use Rattle.spool_store.proofs.Fitting.{fits_get}
use Rattle.spool_store.proofs.Shelving.{held_is}
use Rattle.spool_store.proofs.queue.Queue.entry.Goals as goal

pub returns-clause-is : goal.returns-clause-is
returns-clause-is c = λ h k has. ap (λ (q : Held). q.entry) (held_is c.args.self.now.shelf.items c.items.result.now c.args.id.now c.place-place.result c.index-items-place.result h c.items.ensures.items c.items.ensures.ascending c.place-place.ensures.at k has)

pub returns-clause-fit : goal.returns-clause-fit
returns-clause-fit c = fits_get c.args.self.now.shelf.dirs c.args.self.now.shelf.items c.items.result.now c.place-place.result c.index-items-place.result c.items.ensures.items c.items.ensures.fit c.place-place.ensures.at.within
