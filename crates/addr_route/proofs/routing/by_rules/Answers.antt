use Rattle.std.proofs.Common.{◌∷◌, [], List, Err, Result}
use Rattle.std.specs.Prelude.{codes}
use Rattle.std.proofs.lemmas.Result.{err_from_is_err_and}
use Rattle.mail_base.specs.declared.route.Cause.{Cause}
use Rattle.mail_base.specs.declared.token.Token.{Token}
use Rattle.ruleset_run.specs.Sites.{site_of}
use Rattle.addr_route.specs.Routes.{Lands, rules_fail}
use Rattle.ruleset_run.specs.Sets.{Passes}
use Rattle.addr_route.proofs.EndLemmas.{refuses}
use Rattle.addr_route.proofs.routing.by_rules.Goals as goal

pub returns-in_err-list : goal.returns-in_err-list
returns-in_err-list c =
    let a = c.args in
    let P : Result (List Token) Cause → Type 0 = Passes (site_of a.config.now a.maps.now) a.macros.now (codes "3" ∷ codes "0" ∷ []) a.text.now in
    let p = err_from_is_err_and c.from_residual.result c.from_residual.ensures.1 in
    rw (p.1, p.2) (refuses P (λ resolved. (answer : Result (List Token) Cause) × P answer × Lands a.config.now a.maps.now a.macros.now a.leaf answer resolved) (λ why h. (Err why, h, rules_fail why)) c.in_err-list.field-0.0 c.in_err-list.ensures)
