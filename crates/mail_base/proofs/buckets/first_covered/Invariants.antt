use Rattle.std.proofs.Common.{◌-◌, ◌≤◌, length}
use Rattle.mail_base.specs.inner.Covering.{AreUncovered}
use Rattle.mail_base.proofs.buckets.first_covered.Given as goal

-- none of the slots so far is covered
abbrev pub invariant-slots : goal.invariant-slots
invariant-slots l = record {
  above : l.from ≤ l.place;
  none : AreUncovered l.mask l.slots l.from l.place;
}

abbrev pub decreases-slots : goal.decreases-slots
decreases-slots l = length l.slots - l.place
