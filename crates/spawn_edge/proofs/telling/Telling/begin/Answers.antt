-- The child runs, and its start stands behind the history.
use Rattle.std.proofs.Common.{arith, ap, length, ◌∙◌, ◌++◌, ◌∷◌, []}
use Rattle.spawn_edge.proofs.Keeping.{kept_same, kept_begun}
use Rattle.spawn_edge.proofs.telling.Telling.begin.Goals as goal

pub invariant_of-self-in_err-add : goal.invariant_of-self-in_err-add
invariant_of-self-in_err-add c = kept_same _ _ _ _ _ _ _ c.self.invariant c.in_err-add.ensures.kept c.reserve.ensures.items c.in_err-add.ensures.capacity

pub invariant_of-self-2 : goal.invariant_of-self-2
invariant_of-self-2 c = kept_begun _ _ c.args.start _ c.args.missed _ _ _ _ _ c.self.invariant c.number_after-child.ensures c.in_ok-add.ensures.told (c.push_reserved.ensures.items ∙ ap (λ xs. xs ++ c.number_after-child.result ∷ []) c.reserve.ensures.items) (omega (arith, c.in_ok-add.ensures.room, ap length c.deref-2.ensures.value, ap length c.reserve.ensures.items))
