use Rattle.std.proofs.Common.{◌≡◌, ◌∷◌, [], List, Ok, Err, Result, false, true, sym, ◌∙◌}
use Rattle.std.specs.Prelude.{codes}
use Rattle.std.proofs.lemmas.Result.{err_from_is_err_and}
use Rattle.mail_base.specs.declared.route.Cause.{Cause}
use Rattle.mail_base.specs.declared.token.Token.{Token}
use Rattle.ruleset_run.specs.Filling.{is_resolved}
use Rattle.ruleset_run.specs.Sites.{site_of}
use Rattle.addr_route.specs.Aims.{aim_of, with_host}
use Rattle.addr_route.specs.Routes.{Leads, Turns, five_fails, stays}
use Rattle.ruleset_run.specs.Sets.{Through}
use Rattle.addr_route.proofs.EndLemmas.{refuses, tells_so, turn_led}
use Rattle.addr_route.proofs.routing.turned.Goals as goal

pub returns-in_err-list : goal.returns-in_err-list
returns-in_err-list c =
    let a = c.args in
    let P : Result (List Token) Cause → Type 0 = Through (site_of a.config.now a.maps.now) (with_host a.aim.now.host a.macros.now) (codes "5" ∷ []) a.aim.now.user in
    let p = err_from_is_err_and c.from_residual.result c.from_residual.ensures.1 in
    rw (p.1, p.2) (refuses P (λ resolved. (answer : Result (List Token) Cause) × P answer × Turns a.config.now a.maps.now a.macros.now a.triple answer resolved) (λ why t. (Err why, t, five_fails why)) c.in_err-list.field-0.0 c.in_err-list.ensures)

pub returns-then-not-is_resolved : goal.returns-then-not-is_resolved
returns-then-not-is_resolved c =
    let off : is_resolved c.in_ok-list.list ≡ false = rw c.items.ensures at (sym c.is_resolved.ensures ∙ c.if-not-is_resolved.true) in
    (Ok c.in_ok-list.list, c.in_ok-list.ensures, stays c.in_ok-list.list off)

pub returns : goal.returns
returns c =
    let a = c.args in
    let P : Result (List Token) Cause → Type 0 = Through (site_of a.config.now a.maps.now) (with_host a.aim.now.host a.macros.now) (codes "5" ∷ []) a.aim.now.user in
    let list = c.in_ok-list.list in
    let other = c.in_ok-other.other in
    let on : is_resolved list ≡ true = rw c.items.ensures at (sym c.is_resolved.ensures ∙ c.if-not-is_resolved.false) in
    let is : other ≡ aim_of list = rw c.items-2.ensures at c.in_ok-other.ensures in
    tells_so (Leads a.config.now a.maps.now a.macros.now other) (λ resolved. (answer : Result (List Token) Cause) × P answer × Turns a.config.now a.maps.now a.macros.now a.triple answer resolved)
    (λ resolved l. (Ok list, c.in_ok-list.ensures, turn_led a.config.now a.maps.now a.macros.now list other is on a.triple resolved l)) c.lead.result c.lead.ensures
