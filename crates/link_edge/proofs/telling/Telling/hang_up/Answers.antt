-- The session is no longer open, and its hang-up stands behind the history.
use Rattle.std.proofs.Common.{refl, arith, ap, length, ◌∙◌, ◌∷◌, []}
use Rattle.std.proofs.lemmas.List.{length-append}
use Rattle.link_edge.specs.declared.event.FloorEvent.TheVariants.{HungUp}
use Rattle.link_edge.specs.Sessions.{open_in}
use Rattle.link_edge.proofs.Keeping.{kept_more, among_kept}
use Rattle.link_edge.proofs.telling.Telling.hang_up.Goals as goal

pub invariant_of-self : goal.invariant_of-self
invariant_of-self c =
    let there = among_kept _ _ c.args.session (c.self.invariant.live_is ∙ ap open_in c.self.view_is) c.requires in
    kept_more _ _ (HungUp c.args.session) _ _ _ _ _ _ _ _ c.self.invariant c.push_reserved.ensures.items c.leave.ensures.without c.leave-2.ensures.without (omega arith) (λ n above. refl) (omega (arith, c.leave.ensures.one_less there, ap length c.push_reserved.ensures.items, length-append c.self.inside.told.items (HungUp c.args.session ∷ [])))
