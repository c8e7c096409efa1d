use Rattle.std.proofs.Common.{◌≡◌, ◌∷◌, [], List, Ok, Result, true, sym, ◌∙◌}
use Rattle.std.specs.Prelude.{codes}
use Rattle.std.proofs.lemmas.Result.{err_from_is_err_and}
use Rattle.mail_base.specs.declared.route.Cause.{Cause}
use Rattle.mail_base.specs.declared.token.Token.{Token}
use Rattle.ruleset_run.specs.Filling.{is_resolved}
use Rattle.ruleset_run.specs.Sites.{site_of}
use Rattle.addr_route.specs.Aims.{with_host}
use Rattle.addr_route.specs.Routes.{Lands, Leads, Turns, not_resolved}
use Rattle.ruleset_run.specs.Sets.{Through}
use Rattle.addr_route.proofs.EndLemmas.{stops_so, tells_so, land_refused, land_goes, land_five}
use Rattle.addr_route.proofs.routing.land.Goals as goal

pub returns-then-not-is_resolved : goal.returns-then-not-is_resolved
returns-then-not-is_resolved c = not_resolved c.args.list.now (sym c.is_resolved.ensures ∙ c.if-not-is_resolved.true)

pub returns-in_err-triple : goal.returns-in_err-triple
returns-in_err-triple c =
    let a = c.args in
    let aim = c.in_ok-aim.aim in
    let on : is_resolved a.list.now ≡ true = sym c.is_resolved.ensures ∙ c.if-not-is_resolved.false in
    let p = err_from_is_err_and c.from_residual-in_err-triple.result c.from_residual-in_err-triple.ensures.1 in
    rw (p.1, p.2) (stops_so (Leads a.config.now a.maps.now a.macros.now aim) (Lands a.config.now a.maps.now a.macros.now a.leaf (Ok a.list.now)) (land_refused a.config.now a.maps.now a.macros.now a.list.now aim c.in_ok-aim.ensures on a.leaf)
    c.in_err-triple.field-0.0 c.in_err-triple.ensures)

pub returns-then-not-asks_five : goal.returns-then-not-asks_five
returns-then-not-asks_five c =
    let a = c.args in
    let on : is_resolved a.list.now ≡ true = sym c.is_resolved.ensures ∙ c.if-not-is_resolved.false in
    land_goes a.config.now a.maps.now a.macros.now a.list.now c.in_ok-aim.aim c.in_ok-aim.ensures on a.leaf c.in_ok-triple.triple c.in_ok-triple.ensures (sym c.asks_five.ensures ∙ c.if-not-asks_five.true)

pub returns : goal.returns
returns c =
    let a = c.args in
    let aim = c.in_ok-aim.aim in
    let on : is_resolved a.list.now ≡ true = sym c.is_resolved.ensures ∙ c.if-not-is_resolved.false in
    let P : Result (List Token) Cause → Type 0 = Through (site_of a.config.now a.maps.now) (with_host aim.host a.macros.now) (codes "5" ∷ []) aim.user in
    tells_so (λ resolved. (answer : Result (List Token) Cause) × P answer × Turns a.config.now a.maps.now a.macros.now c.in_ok-triple.triple answer resolved) (Lands a.config.now a.maps.now a.macros.now a.leaf (Ok a.list.now))
    (λ resolved h. land_five a.config.now a.maps.now a.macros.now a.list.now aim c.in_ok-aim.ensures on a.leaf c.in_ok-triple.triple c.in_ok-triple.ensures (sym c.asks_five.ensures ∙ c.if-not-asks_five.false) resolved h.0 h.1 h.2) c.turned.result c.turned.ensures
