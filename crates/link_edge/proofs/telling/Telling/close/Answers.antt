-- The session is no longer open, and its end stands behind the history.
use Rattle.std.proofs.Common.{refl, arith, ap, length}
use Rattle.link_edge.specs.declared.event.Event.TheVariants.{Closes}
use Rattle.link_edge.specs.declared.event.FloorEvent.TheVariants.{Took}
use Rattle.link_edge.proofs.Keeping.{kept_same, kept_more}
use Rattle.link_edge.proofs.telling.Telling.close.Goals as goal

pub invariant_of-self : goal.invariant_of-self
invariant_of-self c = kept_same _ _ _ _ _ _ _ _ _ c.self.invariant c.in_err-add.ensures.kept refl refl c.in_err-add.ensures.capacity

pub invariant_of-self-2 : goal.invariant_of-self-2
invariant_of-self-2 c = kept_more _ _ (Took (Closes c.args.session)) _ _ _ _ _ _ _ _ c.self.invariant c.in_ok-add.ensures.told c.leave.ensures.without c.leave-2.ensures.without (omega arith) (λ n above. refl) (omega (arith, c.in_ok-add.ensures.room, ap length c.deref.ensures.value, ap length c.deref-2.ensures.value))
