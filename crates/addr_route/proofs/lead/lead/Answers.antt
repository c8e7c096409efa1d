use Rattle.std.proofs.Common.{ℕ, List, sym, ◌∙◌, ap, subst}
use Rattle.std.specs.Option.{option_copied}
use Rattle.mail_base.specs.declared.route.Cause.TheVariants.{UnknownMailer}
use Rattle.mail_base.specs.declared.route.Resolved.TheVariants.{Refuses}
use Rattle.mail_base.specs.declared.route.RouteError.{RouteError}
use Rattle.addr_route.specs.Errors.{error_of}
use Rattle.addr_route.specs.Routes.{Leads, LeadsTo, says_error, unknown_mailer, known_mailer}
use Rattle.addr_route.proofs.EndLemmas.{tells_so}
use Rattle.addr_route.proofs.lead.lead.Goals as goal

pub returns-then-is_error : goal.returns-then-is_error
returns-then-is_error c =
    let a = c.args in
    subst (λ (error : RouteError). Leads a.config.now a.maps.now a.macros.now a.aim.now (Refuses error)) (sym c.in_ok-error.ensures) (says_error (sym c.is_error.ensures ∙ c.if-is_error.true))

pub returns-in-Some : goal.returns-in-Some
returns-in-Some c =
    let a = c.args in
    let mailer = c.in-Some.mailer.now in
    tells_so (LeadsTo a.config.now a.maps.now a.macros.now mailer a.aim.now) (Leads a.config.now a.maps.now a.macros.now a.aim.now)
    (λ resolved l. known_mailer mailer resolved (sym c.is_error.ensures ∙ c.if-is_error.false) (sym c.mailer.ensures ∙ ap option_copied c.in-Some.is) l) c.lead_to.result c.lead_to.ensures

pub returns-in_ok-name-in-None : goal.returns-in_ok-name-in-None
returns-in_ok-name-in-None c =
    let a = c.args in
    subst (λ (name : List ℕ). Leads a.config.now a.maps.now a.macros.now a.aim.now (Refuses (error_of (UnknownMailer name)))) (sym c.in_ok-name-in-None.ensures)
    (unknown_mailer (sym c.is_error.ensures ∙ c.if-is_error.false) (sym c.mailer.ensures ∙ ap option_copied c.in-None.is))
