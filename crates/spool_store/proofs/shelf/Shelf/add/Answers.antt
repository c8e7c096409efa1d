-- The first free id stands behind.
use Rattle.std.proofs.Common.{◌≡◌, ℕ, sym, subst, ◌<◌}
use Rattle.std.specs.Prelude.{All}
use Rattle.spool_store.specs.Openings.{IsFitting}
use Rattle.spool_store.specs.inner.Shelves.{Shelved}
use Rattle.spool_store.specs.declared.held.Held.{Held}
use Rattle.spool_store.proofs.Fitting.{fits_held}
use Rattle.spool_store.proofs.Shelving.{room_left, added_ascends, added_below}
use Rattle.spool_store.proofs.shelf.Shelf.add.Goals as goal

pub invariant_of-self : goal.invariant_of-self
invariant_of-self c =
    let put = c.push_reserved.ensures in
    let items = c.self.inside.held.items in
    let at : c.args.held.entry.id ≡ c.self.inside.next = subst (λ (q : Shelved). c.args.held.entry.id ≡ q.next) (sym c.self.view_is) c.requires.next in
    let below = c.self.invariant.1.1.0 in
    let fit = subst (λ (q : Shelved). IsFitting q.dirs c.args.held.entry) (sym c.self.view_is) c.requires.fit in (
      room_left items c.push_reserved.new.self.items c.args.held c.self.inside.room _ _ put.items put.capacity c.self.invariant.0 (subst (λ (q : Shelved). 0 < q.room) (sym c.self.view_is) c.requires.room),
      (
        added_ascends items c.push_reserved.new.self.items c.args.held put.items c.self.invariant.1.0 (subst (λ (n : ℕ). All (λ (h : Held). h.entry.id < n) items) (sym at) below),
        (
          added_below items c.push_reserved.new.self.items c.args.held c.self.inside.next put.items at below,
          fits_held c.self.inside.dirs items c.push_reserved.new.self.items c.args.held put.items fit c.self.invariant.1.1.1,
        ),
      ),
    )
