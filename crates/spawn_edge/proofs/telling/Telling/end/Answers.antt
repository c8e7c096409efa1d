-- The child runs no more, and its end stands behind the history.
use Rattle.std.proofs.Common.{arith, ap, length, ◌∙◌, ◌++◌, ◌∷◌, []}
use Rattle.std.proofs.lemmas.List.{length-append}
use Rattle.spawn_edge.specs.declared.event.SpawnEvent.TheVariants.{Polled}
use Rattle.spawn_edge.specs.Children.{running_in}
use Rattle.spawn_edge.specs.inner.Kept.{end_of}
use Rattle.spawn_edge.proofs.Keeping.{kept_ended, among_kept}
use Rattle.spawn_edge.proofs.telling.Telling.end.Goals as goal

pub invariant_of-self : goal.invariant_of-self
invariant_of-self c =
    let there = among_kept _ _ c.args.child (c.self.invariant.running_is ∙ ap running_in c.self.view_is) c.requires in
    let is = c.push_reserved.ensures.items ∙ ap (λ poll. c.self.inside.told.items ++ Polled c.args.child poll ∷ []) c.ended.ensures in
    kept_ended _ _ c.args.child c.args.status _ _ _ _ _ c.self.invariant is c.leave.ensures.without (omega (arith, c.leave.ensures.one_less there, ap length is, length-append c.self.inside.told.items (Polled c.args.child (end_of c.args.status) ∷ [])))
