use Rattle.std.proofs.Common.{◌≡◌, ℕ, ◌-◌, ◌<◌, ◌≤◌, length, Some}
use Rattle.std.specs.Prelude.{slice_get}
use Rattle.mail_base.specs.declared.rule.Rule.{Rule}
use Rattle.ruleset_run.specs.inner.Looks.{CannotMatch}
use Rattle.ruleset_run.proofs.looking.next_by_anchor.Given as goal

-- the rules before a number can't match
abbrev pub invariant-rules : goal.invariant-rules
invariant-rules l = record {
  above : l.from ≤ l.at;
  passed : (k : ℕ) (other : Rule) → l.from ≤ k → k < l.at → slice_get l.set.rules k ≡ Some other → CannotMatch l.tokens other;
}

abbrev pub decreases-rules : goal.decreases-rules
decreases-rules l = length l.set.rules - l.at
