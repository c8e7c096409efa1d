use Rattle.std.proofs.Common.{◌≡◌, ◌∷◌, [], List, Option, Result, sym, ◌∙◌, ap, subst}
use Rattle.std.specs.Option.{option_copied}
use Rattle.mail_base.specs.declared.route.Cause.{Cause}
use Rattle.mail_base.specs.declared.route.RouteError.{RouteError}
use Rattle.mail_base.specs.declared.token.Token.{Token}
use Rattle.ruleset_run.specs.Sites.{site_of}
use Rattle.addr_route.specs.Checks.{Checks, checked, unchecked, verdict}
use Rattle.ruleset_run.specs.Sets.{Passes}
use Rattle.ruleset_run.proofs.RewriteLemmas.{if_ok}
use Rattle.addr_route.proofs.checking.checked.Goals as goal

pub returns-in-Some : goal.returns-in-Some
returns-in-Some c =
    let a = c.args in
    let site = site_of a.config.now a.maps.now in
    let P : Option RouteError → Type 0 = λ error. (answer : Result (List Token) Cause) × Passes site a.macros.now (a.set.now ∷ []) a.address.now answer × (error ≡ verdict answer) in
    let Q : Option RouteError → Type 0 = Checks a.config.now a.maps.now a.macros.now a.set.now a.address.now in
    if_ok P Q (λ error h. subst Q (sym h.2) (checked c.in-Some._ruleset.now h.0 (sym c.get.ensures ∙ ap option_copied c.in-Some.is) h.1)) c.judged.result c.judged.ensures

pub returns-in-None : goal.returns-in-None
returns-in-None c = unchecked (sym c.get.ensures ∙ ap option_copied c.in-None.is)
