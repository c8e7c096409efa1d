-- The tokens that are cut are the definition's.
use Rattle.std.proofs.Common.{sym, ◌∙◌}
use Rattle.ruleset_run.specs.Sites.{site_of}
use Rattle.queue_plan.specs.Groups.{Answers, no_tokens}
use Rattle.queue_plan.specs.inner.Answering.{Runs}
use Rattle.queue_plan.proofs.GroupLemmas.{answers_by, ok_so}
use Rattle.queue_plan.proofs.asking.answered.Goals as goal

pub returns-in-Some : goal.returns-in-Some
returns-in-Some c =
    let a = c.args in
    let site = site_of a.config.now a.maps.now in
    ok_so (Runs site a.macros.now a.set.now c.in-Some.tokens) (Answers site a.macros.now a.address.now)
    (λ said r. answers_by site a.macros.now a.address.now a.set.now c.in-Some.tokens said c.requires (sym c.in_ok-known.ensures ∙ c.in-Some.is) r) c.run_over.result c.run_over.ensures

pub returns-in-None : goal.returns-in-None
returns-in-None c = no_tokens (sym c.in_ok-known.ensures ∙ c.in-None.is)
