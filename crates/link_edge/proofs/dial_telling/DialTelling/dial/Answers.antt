-- The line is open and sound, and its dial stands behind the history.
use Rattle.std.proofs.Common.{arith, ap, length, ◌∙◌, ◌++◌, ◌∷◌, []}
use Rattle.link_edge.proofs.LineKeeping.{kept_same, kept_dialled}
use Rattle.link_edge.proofs.dial_telling.DialTelling.dial.Goals as goal

pub invariant_of-self-in_err-add : goal.invariant_of-self-in_err-add
invariant_of-self-in_err-add c = kept_same _ _ _ _ _ _ _ _ _ c.self.invariant c.in_err-add.ensures.kept c.reserve.ensures.items c.reserve-2.ensures.items c.in_err-add.ensures.capacity

pub invariant_of-self-2 : goal.invariant_of-self-2
invariant_of-self-2 c = kept_dialled _ _ c.in_ok-peer.peer _ c.args.missed _ _ _ _ _ _ _ c.self.invariant c.number_after-line.ensures c.in_ok-add.ensures.told (c.push_reserved.ensures.items ∙ ap (λ xs. xs ++ c.number_after-line.result ∷ []) c.reserve.ensures.items) (c.push_reserved-2.ensures.items ∙ ap (λ xs. xs ++ c.number_after-line.result ∷ []) c.reserve-2.ensures.items) (omega (arith, c.in_ok-add.ensures.room, ap length c.deref-2.ensures.value, ap length c.deref-3.ensures.value, ap length c.reserve.ensures.items, ap length c.reserve-2.ensures.items))
