use Rattle.std.proofs.Common.{◌≡◌, length}
use Rattle.rule_match.specs.inner.Steps.{piece_behind, AreWithin}
use Rattle.rule_match.proofs.cuts.piece_behind.Given as goal

-- the cuts that are left have the piece
abbrev pub invariant-loop-cut : goal.invariant-loop-cut
invariant-loop-cut l = record {
  same : piece_behind l.tokens l.left l.others ≡ piece_behind l.tokens l.cuts l.number;
  within : AreWithin (length l.tokens) l.left;
}

abbrev pub decreases-loop-cut : goal.decreases-loop-cut
decreases-loop-cut l = length l.left
