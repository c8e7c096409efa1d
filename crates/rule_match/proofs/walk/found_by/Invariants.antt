use Rattle.std.proofs.Common.{length}
use Rattle.rule_match.proofs.Going.{Goes}
use Rattle.rule_match.proofs.walk.found_by.Given as goal

-- whatever is taken of the rest completes what is taken of all
abbrev pub invariant-loop-item : goal.invariant-loop-item
invariant-loop-item g l = record {
  goes : Goes l.classes l.late l.pattern l.tokens l.lists l.items l.left l.cuts l.start;
  serves : g.L.Lengths.serves l.lengths l.classes l.lists l.items l.left l.start;
}

abbrev pub decreases-loop-item : goal.decreases-loop-item
decreases-loop-item g l = length l.items
