use Rattle.ruleset_run.specs.Sites.{site_of}
use Rattle.ruleset_run.proofs.ThroughLemmas.{run_gives, run_fails}
use Rattle.ruleset_run.proofs.passing.ran.Goals as goal

pub returns-in-Ok : goal.returns-in-Ok
returns-in-Ok c =
    let a = c.args in
    run_gives (site_of a.config.now a.maps.now) a.macros.now a.set.now a.tokens.now c.in-Ok.ran c.in-Ok.ensures.run

pub returns-in-Err : goal.returns-in-Err
returns-in-Err c =
    let a = c.args in
    rw c.of_run.ensures (run_fails (site_of a.config.now a.maps.now) a.macros.now a.set.now a.tokens.now c.in-Err.fault c.in-Err.ensures.run)
