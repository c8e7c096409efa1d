-- Each line stays as it is, and the event stands behind the history.
use Rattle.std.proofs.Common.{refl, arith, ap, length}
use Rattle.link_edge.proofs.LineKeeping.{kept_same, kept_quiet}
use Rattle.link_edge.proofs.dial_telling.DialTelling.pass.Goals as goal

pub invariant_of-self : goal.invariant_of-self
invariant_of-self c = kept_same _ _ _ _ _ _ _ _ _ c.self.invariant c.in_err-add.ensures.kept refl refl c.in_err-add.ensures.capacity

pub invariant_of-self-2 : goal.invariant_of-self-2
invariant_of-self-2 c = kept_quiet _ _ c.args.event _ _ _ _ _ c.self.invariant c.requires c.in_ok-add.ensures.told (omega (arith, c.in_ok-add.ensures.room, ap length c.deref.ensures.value, ap length c.deref-2.ensures.value))
