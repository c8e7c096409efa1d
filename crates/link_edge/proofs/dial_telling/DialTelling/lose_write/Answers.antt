-- The line is no longer sound, and the failed write stands behind the history.
use Rattle.std.proofs.Common.{refl, arith, ap, length, ◌∙◌, ◌∷◌, []}
use Rattle.std.proofs.lemmas.List.{length-append}
use Rattle.link_edge.specs.declared.dial_event.DialEvent.TheVariants.{Unwritten}
use Rattle.link_edge.specs.Lines.{sound_in}
use Rattle.link_edge.proofs.Keeping.{among_kept}
use Rattle.link_edge.proofs.LineKeeping.{kept_more}
use Rattle.link_edge.proofs.dial_telling.DialTelling.lose_write.Goals as goal

pub invariant_of-self : goal.invariant_of-self
invariant_of-self c =
    let there = among_kept _ _ c.args.line (c.self.invariant.sound_is ∙ ap sound_in c.self.view_is) c.requires in
    kept_more _ _ (Unwritten c.args.line) _ _ _ _ _ _ _ _ c.self.invariant c.push_reserved.ensures.items refl c.leave.ensures.without (omega arith) (λ n above. refl) (omega (arith, c.leave.ensures.one_less there, ap length c.push_reserved.ensures.items, length-append c.self.inside.told.items (Unwritten c.args.line ∷ [])))
