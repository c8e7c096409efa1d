use Rattle.std.proofs.Common.{◌≡◌, ◌≤◌, ℕ, Some, sym}
use Rattle.std.specs.Prelude.{slice_get}
use Rattle.mail_base.specs.declared.rule.Rule.{Rule}
use Rattle.ruleset_run.specs.inner.Looks.{CannotMatch}
use Rattle.ruleset_run.proofs.Skipping.{ahead_covered, if_none, none_covered, rule_stands}
use Rattle.ruleset_run.proofs.looking.next_rule.Goals as goal

pub returns-in_err-number-clause-none : goal.returns-in_err-number-clause-none
returns-in_err-number-clause-none c =
    let a = c.args in
    if_none c.from_residual.result ((k : ℕ) (rule : Rule) → a.from ≤ k → slice_get a.set.now.rules k ≡ Some rule → CannotMatch a.tokens.now rule)
    (none_covered a.set.now.rules a.from a.mask a.tokens.now c.requires c.in_err-number.ensures.none)

pub returns-in_err-rule-clause-none : goal.returns-in_err-rule-clause-none
returns-in_err-rule-clause-none c =
    let a = c.args in
    absurd (rule_stands a.set.now.rules c.in_ok-number.number c.in_ok-number.ensures.some.within (sym c.in_err-rule.ensures))

pub returns-clause-some : goal.returns-clause-some
returns-clause-some c =
    let a = c.args in
    ahead_covered a.set.now.rules a.from a.mask a.tokens.now c.in_ok-number.number c.in_ok-rule.rule.now c.requires c.in_ok-number.ensures.some (sym c.in_ok-rule.ensures)
