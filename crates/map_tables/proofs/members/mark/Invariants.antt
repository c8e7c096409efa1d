use Rattle.std.proofs.Common.{◌≡◌, length, take}
use Rattle.map_tables.specs.inner.Members.{AreAsBefore, AreMarked, Keeps}
use Rattle.map_tables.proofs.members.mark.Given as goal

-- the members so far are marked, and only these
abbrev pub invariant-loop-member : goal.invariant-loop-member
invariant-loop-member l = record {
  members : AreMarked (take l.member-index l.members) l.end l.marked;
  keeps : Keeps l.fn.marked l.marked;
  others : AreAsBefore l.end l.fn.marked l.marked;
  length : length l.marked ≡ length l.fn.marked;
}
