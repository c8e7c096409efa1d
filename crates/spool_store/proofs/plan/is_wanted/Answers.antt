-- The one control file of the id decides.
use Rattle.std.proofs.Common.{◌∙◌, ap}
use Rattle.spool_store.specs.declared.named.Found.{Found}
use Rattle.spool_store.proofs.Judgements.{found_in}
use Rattle.spool_store.proofs.PlanLemmas.{unwanted_none, verdict_item}
use Rattle.spool_store.proofs.plan.is_wanted.Goals as goal

pub returns-in-None-clause-no : goal.returns-in-None-clause-no
returns-in-None-clause-no c = λ dirs f found judged e. unwanted_none dirs f c.args.found.now c.args.named.now found c.in-None.ensures.none

pub returns-in-Some-clause-yes : goal.returns-in-Some-clause-yes
returns-in-Some-clause-yes c = λ dirs f found judged e.
    let x = c.index-found-place.result in
    let k = c.in-Some.place in
    c.is_wanted_by.ensures.yes dirs f (found.each x (found_in c.args.found.now k x c.in-Some.ensures.some.0 c.index-found-place.is)) (ap (λ (y : Found). y.named.id) c.index-found-place.is ∙ c.in-Some.ensures.some.1 x)
    (verdict_item dirs f c.args.found.now c.args.verdicts.now k x _ c.requires.long judged c.in-Some.ensures.some.0 c.index-found-place.is) e

pub returns-in-Some-clause-no : goal.returns-in-Some-clause-no
returns-in-Some-clause-no c = λ dirs f found judged e.
    let x = c.index-found-place.result in
    let k = c.in-Some.place in
    c.is_wanted_by.ensures.no dirs f (found.each x (found_in c.args.found.now k x c.in-Some.ensures.some.0 c.index-found-place.is)) (ap (λ (y : Found). y.named.id) c.index-found-place.is ∙ c.in-Some.ensures.some.1 x)
    (verdict_item dirs f c.args.found.now c.args.verdicts.now k x _ c.requires.long judged c.in-Some.ensures.some.0 c.index-found-place.is) e
