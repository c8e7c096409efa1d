use Rattle.std.proofs.Common.{sym, ◌∙◌, subst}
use Rattle.std.proofs.lemmas.Result.{err_from_is_err_and}
use Rattle.mail_base.specs.declared.route.Resolved.TheVariants.{Goes}
use Rattle.mail_base.specs.declared.route.Triple.{Triple}
use Rattle.ruleset_run.specs.Sites.{site_of}
use Rattle.addr_route.specs.Aims.{with_host}
use Rattle.addr_route.specs.Routes.{LeadsTo, files, no_user, unwritten, written}
use Rattle.ruleset_run.specs.Sets.{Through, user_sets}
use Rattle.addr_route.proofs.EndLemmas.{refuses}
use Rattle.addr_route.proofs.lead.lead_to.Goals as goal

pub returns-then-is_file : goal.returns-then-is_file
returns-then-is_file c = files (sym c.is_file.ensures ∙ c.if-is_file.true)

pub returns-then-is_nil : goal.returns-then-is_nil
returns-then-is_nil c = no_user (sym c.is_file.ensures ∙ c.if-is_file.false) (sym c.is_nil.ensures ∙ c.if-is_nil.true)

pub returns-in_err-user : goal.returns-in_err-user
returns-in_err-user c =
    let a = c.args in
    let p = err_from_is_err_and c.from_residual.result c.from_residual.ensures.1 in
    rw (p.1, p.2) (refuses (Through (site_of a.config.now a.maps.now) (with_host a.aim.now.host a.macros.now) (user_sets a.mailer.now) a.aim.now.user) (LeadsTo a.config.now a.maps.now a.macros.now a.mailer.now a.aim.now)
    (λ why t. unwritten why (sym c.is_file.ensures ∙ c.if-is_file.false) (sym c.is_nil.ensures ∙ c.if-is_nil.false) t) c.in_err-user.field-0.0 c.in_err-user.ensures)

pub returns : goal.returns
returns c =
    let a = c.args in
    subst (λ (triple : Triple). LeadsTo a.config.now a.maps.now a.macros.now a.mailer.now a.aim.now (Goes triple)) (sym c.in_ok-triple.ensures)
    (written c.in_ok-user.user (sym c.is_file.ensures ∙ c.if-is_file.false) (sym c.is_nil.ensures ∙ c.if-is_nil.false) c.in_ok-user.ensures)
