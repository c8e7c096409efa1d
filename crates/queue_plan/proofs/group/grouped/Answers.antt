-- The group by what the set says.
use Rattle.std.proofs.Common.{◌≡◌, ◌∙◌, ap, subst, sym, Option, List, ℕ}
use Rattle.std.specs.Option.{option_copied}
use Rattle.mail_base.specs.declared.mailer.Mailer.{Mailer}
use Rattle.queue_plan.specs.Groups.{Groups, group_by, grouped, own_group}
use Rattle.queue_plan.proofs.GroupLemmas.{ok_so}
use Rattle.queue_plan.proofs.group.grouped.Goals as goal

pub returns-clause-group : goal.returns-clause-group
returns-clause-group c =
    let a = c.args in
    let said = c.in_ok-said.said in
    let by : Option Mailer → List ℕ = λ mailer. group_by a.config.now said (own_group mailer) in
    ok_so (λ (name : List ℕ). name ≡ by (option_copied c.mailer.result)) (Groups a.config.now a.maps.now a.macros.now a.address.now a.mailer.now)
    (λ name is. subst (Groups a.config.now a.maps.now a.macros.now a.address.now a.mailer.now) (sym (is ∙ ap by c.mailer.ensures)) (grouped said c.in_ok-said.ensures)) c.group_by.result c.group_by.ensures.is
