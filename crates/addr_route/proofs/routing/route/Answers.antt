use Rattle.std.proofs.Common.{◌≡◌}
use Rattle.addr_route.specs.Routes.{Routes, IsBounded}
use Rattle.addr_route.proofs.BoundLemmas.{routes_bound}
use Rattle.ruleset_run.proofs.RewriteLemmas.{if_ok}
use Rattle.addr_route.proofs.routing.route.Goals as goal

pub returns-clause-only : goal.returns-clause-only
returns-clause-only c = λ resolved r.
    let a = c.args in
    if_ok (Routes a.config.now a.maps.now a.macros.now a.address.now a.leaf) (λ given. given ≡ resolved) (λ given g. c.one_route.ensures a.config.now a.maps.now a.macros.now a.address.now a.leaf given resolved g r) c.routed.result c.routed.ensures

pub returns-clause-bounded : goal.returns-clause-bounded
returns-clause-bounded c =
    let a = c.args in
    if_ok (Routes a.config.now a.maps.now a.macros.now a.address.now a.leaf) IsBounded (λ given g. routes_bound a.config.now a.maps.now a.macros.now g) c.routed.result c.routed.ensures
