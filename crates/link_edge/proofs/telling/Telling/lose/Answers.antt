-- The session is no longer sound, and the failed send stands behind the history.
use Rattle.std.proofs.Common.{refl, arith, ap, length, ◌∙◌, ◌∷◌, []}
use Rattle.std.proofs.lemmas.List.{length-append}
use Rattle.link_edge.specs.declared.event.FloorEvent.TheVariants.{Unsent}
use Rattle.link_edge.specs.Sessions.{sound_in}
use Rattle.link_edge.proofs.Keeping.{kept_more, among_kept}
use Rattle.link_edge.proofs.telling.Telling.lose.Goals as goal

pub invariant_of-self : goal.invariant_of-self
invariant_of-self c =
    let there = among_kept _ _ c.args.session (c.self.invariant.sound_is ∙ ap sound_in c.self.view_is) c.requires in
    kept_more _ _ (Unsent c.args.session) _ _ _ _ _ _ _ _ c.self.invariant c.push_reserved.ensures.items refl c.leave.ensures.without (omega arith) (λ n above. refl) (omega (arith, c.leave.ensures.one_less there, ap length c.push_reserved.ensures.items, length-append c.self.inside.told.items (Unsent c.args.session ∷ [])))
