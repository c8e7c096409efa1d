-- The set is asked where an S line names it.
use Rattle.std.proofs.Common.{List, ℕ, sym, ◌∙◌, ap}
use Rattle.std.specs.Option.{option_copied}
use Rattle.std.specs.List.{find}
use Rattle.mail_base.specs.Rulesets.{is_named}
use Rattle.ruleset_run.specs.Sites.{site_of}
use Rattle.queue_plan.specs.Groups.{Answers, Says, asked, unasked}
use Rattle.queue_plan.proofs.GroupLemmas.{ok_so}
use Rattle.queue_plan.proofs.asking.said.Goals as goal

pub returns-in-Some : goal.returns-in-Some
returns-in-Some c =
    let a = c.args in
    let site = site_of a.config.now a.maps.now in
    let book = a.config.now.book in
    let there = ap (λ (s : List ℕ). find (is_named s) book) (sym c.in_ok-set.ensures) ∙ sym c.get.ensures ∙ ap option_copied c.in-Some.is in
    ok_so (Answers site a.macros.now a.address.now) (Says site a.macros.now a.address.now) (λ said h. asked c.in-Some._rules.now said there h) c.answered.result c.answered.ensures

pub returns : goal.returns
returns c =
    let book = c.args.config.now.book in
    unasked (ap (λ (s : List ℕ). find (is_named s) book) (sym c.in_ok-set.ensures) ∙ sym c.get.ensures ∙ ap option_copied c.in-None.is)
