use Rattle.std.proofs.Common.{arith}
use Rattle.std.proofs.lemmas.Result.{err_from_is_err_and}
use Rattle.ruleset_run.specs.Sites.{site_of}
use Rattle.ruleset_run.proofs.ThroughLemmas.{ahead_at, step_goes, step_stops, all_gone}
use Rattle.ruleset_run.proofs.passing.through.Goals as goal

pub returns-in_err-now : goal.returns-in_err-now
returns-in_err-now c =
    let a = c.args in
    let l = c.loop-set in
    let p = err_from_is_err_and c.from_residual.result c.from_residual.ensures.1 in
    let ahead = ahead_at a.sets.now l.set-index c.set-item.result (omega arith) c.set-item.is in
    rw (p.1, p.2) (step_stops (site_of a.config.now a.maps.now) a.macros.now a.sets.now l.set-index a.tokens l.now l.invariant c.set-item.result ahead c.in_err-now.field-0.0 c.in_err-now.ensures)

pub loop-set-preserved : goal.loop-set-preserved
loop-set-preserved c =
    let a = c.args in
    let l = c.loop-set in
    let ahead = ahead_at a.sets.now l.set-index c.set-item.result (omega arith) c.set-item.is in
    step_goes (site_of a.config.now a.maps.now) a.macros.now a.sets.now l.set-index a.tokens l.now l.invariant c.set-item.result ahead c.in_ok-now.now c.in_ok-now.ensures

pub returns : goal.returns
returns c =
    let a = c.args in
    let l = c.loop-set in
    all_gone (site_of a.config.now a.maps.now) a.macros.now a.sets.now l.set-index a.tokens l.now l.invariant (omega arith)
