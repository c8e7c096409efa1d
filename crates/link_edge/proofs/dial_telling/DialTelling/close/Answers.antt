-- The line is no longer open, and its close stands behind the history.
use Rattle.std.proofs.Common.{refl, arith, ap, length, ◌∙◌, ◌∷◌, []}
use Rattle.std.proofs.lemmas.List.{length-append}
use Rattle.link_edge.specs.declared.dial_event.DialEvent.TheVariants.{Closed}
use Rattle.link_edge.specs.Lines.{open_in}
use Rattle.link_edge.proofs.Keeping.{among_kept}
use Rattle.link_edge.proofs.LineKeeping.{kept_more}
use Rattle.link_edge.proofs.dial_telling.DialTelling.close.Goals as goal

pub invariant_of-self : goal.invariant_of-self
invariant_of-self c =
    let there = among_kept _ _ c.args.line (c.self.invariant.live_is ∙ ap open_in c.self.view_is) c.requires in
    kept_more _ _ (Closed c.args.line) _ _ _ _ _ _ _ _ c.self.invariant c.push_reserved.ensures.items c.leave.ensures.without c.leave-2.ensures.without (omega arith) (λ n above. refl) (omega (arith, c.leave.ensures.one_less there, ap length c.push_reserved.ensures.items, length-append c.self.inside.told.items (Closed c.args.line ∷ [])))
