use Rattle.std.proofs.Common.{◌≡◌, ℕ, ◌+◌, ◌<◌, ◌≤◌, length, drop, false}
use Rattle.rule_match.specs.Wants.{want}
use Rattle.rule_match.specs.inner.Rows.{has, IsLater, IsStart}
use Rattle.rule_match.proofs.rows.row_before.Given as goal

-- the bits from the end on are right, and those before it are clear
abbrev pub invariant-loop-end : goal.invariant-loop-end
invariant-loop-end g l = record {
  below : l.end ≤ length l.tokens + 1;
  starts : (place : ℕ) → l.end ≤ place → place ≤ length l.tokens → IsStart (want l.classes l.late l.item) (drop place l.tokens) place l.after (has l.row place);
  fresh : (place : ℕ) → place < l.end → has l.row place ≡ false;
  later : IsLater l.after l.end (length l.tokens) l.later;
}

abbrev pub decreases-loop-end : goal.decreases-loop-end
decreases-loop-end g l = l.end
