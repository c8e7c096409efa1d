use Rattle.std.proofs.Common.{◌≡◌, ◌≤◌, length}
use Rattle.map_tables.specs.inner.Members.{AreMarked, IsClosed}
use Rattle.map_tables.proofs.members.mark_all.Given as goal

-- the members are marked, and from the place on those of each map that is
abbrev pub invariant-marking : goal.invariant-marking
invariant-marking l = record {
  members : AreMarked l.members (length l.maps) l.marked;
  closed : IsClosed l.place l.maps l.marked;
  size : length l.marked ≡ length l.fn.marked;
  within : l.place ≤ length l.maps;
}

abbrev pub decreases-marking : goal.decreases-marking
decreases-marking l = l.place
