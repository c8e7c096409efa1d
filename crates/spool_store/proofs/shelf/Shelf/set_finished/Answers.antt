-- The entry at its place is the only one of its id.
use Rattle.std.proofs.Common.{sym, subst}
use Rattle.spool_store.specs.Stores.{refinished}
use Rattle.spool_store.specs.inner.Shelves.{IsPlaceOf, Shelved}
use Rattle.spool_store.proofs.Fitting.{refinished_fits}
use Rattle.spool_store.proofs.Shelving.{refinished_at, refinished_id, same_kept}
use Rattle.spool_store.proofs.shelf.Shelf.set_finished.Goals as goal

pub returns : goal.returns
returns c =
    let at = subst (λ (q : Shelved). IsPlaceOf q.items c.args.id c.place-place.result) (sym c.self.view_is) c.place-place.ensures.at in
    let done = refinished_at c.self.inside.held.items c.args.id c.place-place.result c.index_mut.result.now c.self.invariant.1.0 at c.index_mut.ensures.value in
    rw (← c.self.view_is) (λ i. record { dirs = c.self.inside.dirs; items = done i; next = c.self.inside.next; room = c.self.inside.room })

pub invariant_of-self : goal.invariant_of-self
invariant_of-self c =
    let items = c.self.inside.held.items in
    let at = subst (λ (q : Shelved). IsPlaceOf q.items c.args.id c.place-place.result) (sym c.self.view_is) c.place-place.ensures.at in
    let done = refinished_at items c.args.id c.place-place.result c.index_mut.result.now c.self.invariant.1.0 at c.index_mut.ensures.value in
    same_kept (refinished c.args.id) c.self.inside.dirs items _ c.self.inside.next c.self.inside.room c.self.inside.held.cap (refinished_id c.args.id) (refinished_fits c.self.inside.dirs c.args.id) done c.self.invariant.0 c.self.invariant.1.0 c.self.invariant.1.1.0 c.self.invariant.1.1.1
