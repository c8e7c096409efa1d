-- A run that ends says what its list says, and one that fails nothing.
use Rattle.std.proofs.Common.{◌≡◌, ◌∙◌, ap, subst, sym, Option, None, List, ℕ}
use Rattle.ruleset_run.specs.declared.fault.RunFault.TheVariants as faults
use Rattle.ruleset_run.specs.Sites.{site_of}
use Rattle.queue_plan.specs.Groups.{name_said}
use Rattle.queue_plan.specs.inner.Answering.{Runs}
use Rattle.queue_plan.proofs.GroupLemmas.{no_run, ok_so, run_says}
use Rattle.queue_plan.proofs.asking.run_over.Goals as goal

pub returns-in-Ok : goal.returns-in-Ok
returns-in-Ok c =
    let a = c.args in
    let site = site_of a.config.now a.maps.now in
    ok_so (λ (said : Option (List ℕ)). said ≡ name_said c.items.result.now) (Runs site a.macros.now a.set.now a.tokens.now)
    (λ said is. run_says site a.macros.now a.set.now a.tokens.now c.in-Ok.ran c.in-Ok.ensures.run said (is ∙ ap name_said c.items.ensures)) c.name_said.result c.name_said.ensures

pub returns-in-Err : goal.returns-in-Err
returns-in-Err c =
    let a = c.args in
    let site = site_of a.config.now a.maps.now in
    ok_so (λ (said : Option (List ℕ)). (said ≡ None) × (c.in-Err.fault ≡ faults.NoMemory → ⊥)) (Runs site a.macros.now a.set.now a.tokens.now)
    (λ said h. subst (Runs site a.macros.now a.set.now a.tokens.now) (sym h.0) (no_run site a.macros.now a.set.now a.tokens.now c.in-Err.fault h.1 c.in-Err.ensures.run)) c.failed.result c.failed.ensures
