use Rattle.std.proofs.Common.{◌≡◌, ℕ, ◌-◌, ◌<◌, ◌≤◌, length, Some}
use Rattle.std.specs.Prelude.{slice_get}
use Rattle.mail_base.specs.declared.rule.Numbered.{Numbered}
use Rattle.rule_index.proofs.candidate.first_from.Given as goal

-- what stands below `low` is too small, and what stands from `high` on isn't
abbrev pub invariant-halving : goal.invariant-halving
invariant-halving l = record {
  order : l.low ≤ l.high;
  within : l.high ≤ length l.bucket;
  below : (k : ℕ) (one : Numbered) → k < l.low → slice_get l.bucket k ≡ Some one → one.number < l.from;
  above : (k : ℕ) (one : Numbered) → l.high ≤ k → slice_get l.bucket k ≡ Some one → l.from ≤ one.number;
}

abbrev pub decreases-halving : goal.decreases-halving
decreases-halving l = l.high - l.low
