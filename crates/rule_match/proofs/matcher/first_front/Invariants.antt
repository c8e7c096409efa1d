use Rattle.std.proofs.Common.{◌≡◌, ℕ, ◌<◌, ◌≤◌, drop, false}
use Rattle.rule_match.specs.Wants.{wants}
use Rattle.rule_match.specs.inner.Steps.{front_stands}
use Rattle.rule_match.proofs.matcher.first_front.Given as goal

-- the front of the items stands at no earlier place
abbrev pub invariant-loop-place : goal.invariant-loop-place
invariant-loop-place l = (k : ℕ) → l.least ≤ k → k < l.place → front_stands (wants l.classes l.late l.items) (drop k l.tokens) ≡ false
