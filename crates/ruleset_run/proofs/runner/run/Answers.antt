use Rattle.std.proofs.Common.{◌≡◌, Some}
use Rattle.ruleset_run.specs.Sites.{site_of}
use Rattle.ruleset_run.specs.Runs.{SetRuns, RunsAt}
use Rattle.ruleset_run.proofs.Moves.{gives_some}
use Rattle.ruleset_run.proofs.Unique.{one_top}
use Rattle.ruleset_run.proofs.runner.run.Goals as goal

pub returns-clause-only : goal.returns-clause-only
returns-clause-only c = λ outcome run.
    let a = c.args in
    let site = site_of a.config.now a.maps.now in
    gives_some c.run_set.new.values.macros c.run_set.result (SetRuns site (RunsAt site 50) (Some a.set.now) a.tokens.now 0 a.macros.now) (λ given. given ≡ outcome)
    (λ given other. one_top site (Some a.set.now) a.tokens.now 0 a.macros.now 50 given outcome other run) (rw (c.in_ok-tokens.ensures, c.new-values.ensures) at c.run_set.ensures.run)
