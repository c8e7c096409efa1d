use Rattle.std.proofs.Common.{sym}
use Rattle.std.proofs.lemmas.Result.{err_from_is_err_and}
use Rattle.ruleset_run.specs.Sites.{site_of}
use Rattle.ruleset_run.specs.Sets.{Passes, Through, passes}
use Rattle.ruleset_run.proofs.ThroughLemmas.{cut_stops, meets_so}
use Rattle.ruleset_run.proofs.passing.passed.Goals as goal

pub returns-in_err-tokens : goal.returns-in_err-tokens
returns-in_err-tokens c =
    let a = c.args in
    let p = err_from_is_err_and c.from_residual.result c.from_residual.ensures.1 in
    rw (p.1, p.2) (cut_stops (site_of a.config.now a.maps.now) a.macros.now a.sets.now a.address.now c.in_err-tokens.field-0.0 c.in_err-tokens.ensures)

pub returns : goal.returns
returns c =
    let a = c.args in
    let site = site_of a.config.now a.maps.now in
    meets_so (Through site a.macros.now a.sets.now c.in_ok-tokens.tokens) (Passes site a.macros.now a.sets.now a.address.now) (λ answer t. passes c.in_ok-tokens.tokens answer (sym c.in_ok-tokens.ensures) t) c.through.result c.through.ensures
