-- The children stay as they are, and the poll stands behind the history.
use Rattle.std.proofs.Common.{refl, arith, ap, length}
use Rattle.spawn_edge.proofs.Keeping.{kept_same, kept_passed}
use Rattle.spawn_edge.proofs.telling.Telling.pass.Goals as goal

pub invariant_of-self : goal.invariant_of-self
invariant_of-self c = kept_same _ _ _ _ _ _ _ c.self.invariant c.in_err-add.ensures.kept refl c.in_err-add.ensures.capacity

pub invariant_of-self-2 : goal.invariant_of-self-2
invariant_of-self-2 c = kept_passed _ _ c.args.child _ _ _ _ c.self.invariant c.in_ok-add.ensures.told (omega (arith, c.in_ok-add.ensures.room, ap length c.deref.ensures.value))
