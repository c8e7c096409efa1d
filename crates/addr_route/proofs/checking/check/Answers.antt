use Rattle.std.proofs.Common.{◌≡◌}
use Rattle.addr_route.specs.Checks.{Checks, IsBoundedIf}
use Rattle.addr_route.proofs.BoundLemmas.{checks_bound}
use Rattle.ruleset_run.proofs.RewriteLemmas.{if_ok}
use Rattle.addr_route.proofs.checking.check.Goals as goal

pub returns-clause-only : goal.returns-clause-only
returns-clause-only c = λ error r.
    let a = c.args in
    if_ok (Checks a.config.now a.maps.now a.macros.now a.set.now a.address.now) (λ given. given ≡ error) (λ given g. c.one_check.ensures a.config.now a.maps.now a.macros.now a.set.now a.address.now given error g r) c.checked.result c.checked.ensures

pub returns-clause-bounded : goal.returns-clause-bounded
returns-clause-bounded c =
    let a = c.args in
    if_ok (Checks a.config.now a.maps.now a.macros.now a.set.now a.address.now) IsBoundedIf (λ given g. checks_bound a.config.now a.maps.now a.macros.now g) c.checked.result c.checked.ensures
