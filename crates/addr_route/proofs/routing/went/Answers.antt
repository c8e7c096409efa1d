use Rattle.std.proofs.Common.{◌≡◌, ◌∷◌, [], List, Result, sym, ◌∙◌, subst}
use Rattle.std.specs.Prelude.{codes}
use Rattle.mail_base.specs.Catalogs.{value_like}
use Rattle.mail_base.specs.declared.route.Cause.{Cause}
use Rattle.mail_base.specs.declared.route.Resolved.{Resolved}
use Rattle.mail_base.specs.declared.token.Token.{Token}
use Rattle.ruleset_run.specs.Sites.{site_of}
use Rattle.addr_route.specs.Routes.{Lands, Routes, program, file, by_rules, program_by}
use Rattle.ruleset_run.specs.Sets.{Passes}
use Rattle.addr_route.proofs.EndLemmas.{tells_so}
use Rattle.addr_route.proofs.routing.went.Goals as goal

pub returns-in-Program : goal.returns-in-Program
returns-in-Program c =
    let a = c.args in
    let Q : Resolved → Type 0 = Routes a.config.now a.maps.now a.macros.now a.address.now a.leaf in
    tells_so (λ resolved. resolved ≡ program_by c.in-Program.command (value_like (codes "prog") a.config.now.mailers)) Q (λ resolved e. subst Q (sym e) (program c.in-Program.command (sym c.in_ok-form.ensures ∙ c.in-Program.is)))
    c.program.result c.program.ensures

pub returns-in-File : goal.returns-in-File
returns-in-File c = file (sym c.in_ok-form.ensures ∙ c.in-File.is)

pub returns-in-Plain : goal.returns-in-Plain
returns-in-Plain c =
    let a = c.args in
    let text = c.in-Plain.text in
    tells_so (λ resolved. (answer : Result (List Token) Cause) × Passes (site_of a.config.now a.maps.now) a.macros.now (codes "3" ∷ codes "0" ∷ []) text answer × Lands a.config.now a.maps.now a.macros.now a.leaf answer resolved)
    (Routes a.config.now a.maps.now a.macros.now a.address.now a.leaf) (λ resolved h. by_rules text h.0 resolved (sym c.in_ok-form.ensures ∙ c.in-Plain.is) h.1 h.2) c.by_rules.result c.by_rules.ensures
