use Rattle.std.proofs.Common.{[], Some, Err, sym, ◌∙◌, subst}
use Rattle.ruleset_run.specs.declared.fault.RunFault.TheVariants.{NoRuleset}
use Rattle.ruleset_run.specs.Runs.{SetRuns, RunsAt, known, unknown, no_rule}
use Rattle.ruleset_run.proofs.SetLemmas.{absent_standard, absent_other}
use Rattle.ruleset_run.proofs.runner.run_absent.Goals as goal

pub returns-then-is_standard-clause-run : goal.returns-then-is_standard-clause-run
returns-then-is_standard-clause-run c = λ site left macros none.
    let a = c.args in
    known (Some a.name.now) a.start.tokens a.start.work macros [] _ (absent_standard site a.name.now none (sym c.is_standard.ensures ∙ c.if-is_standard.true)) (no_rule 0 a.start.tokens a.start.work macros)

pub returns-clause-run : goal.returns-clause-run
returns-clause-run c = λ site left macros none.
    let a = c.args in
    subst (λ name. SetRuns site (RunsAt site left) (Some a.name.now) a.start.tokens a.start.work macros (Err (NoRuleset name))) (sym c.in_ok-copy.ensures)
    (unknown (Some a.name.now) a.start.tokens a.start.work macros (absent_other site a.name.now none (sym c.is_standard.ensures ∙ c.if-is_standard.false)))
