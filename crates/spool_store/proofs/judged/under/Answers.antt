-- The control file above it is judged already.
use Rattle.std.proofs.Common.{get_or}
use Rattle.spool_store.specs.inner.Finds.{spot_named}
use Rattle.spool_store.proofs.Verdicts.{verdict_none}
use Rattle.spool_store.proofs.Judgements.{none_above, verdict_at, an_item}
use Rattle.spool_store.proofs.judged.under.Goals as goal

pub bounds-verdicts-place : goal.bounds-verdicts-place
bounds-verdicts-place c = let d = an_item c.args.found.now c.in-Some.place c.in-Some.ensures.some.0 in c.requires.far c.in-Some.place d c.in-Some.ensures.some.0 (c.in-Some.ensures.some.1 d)

pub returns-in-None : goal.returns-in-None
returns-in-None c = λ dirs f s control found judged sober parent lt revision. verdict_none dirs f s control c.args.parent.now sober parent lt (none_above dirs f c.args.found.now c.args.parent.now.id found c.in-None.ensures.none)

pub returns-in-Some : goal.returns-in-Some
returns-in-Some c = λ dirs f s control found judged sober parent lt revision.
    let k = c.in-Some.place in
    let d = an_item c.args.found.now k c.in-Some.ensures.some.0 in
    c.below.ensures dirs f s (spot_named dirs (get_or c.args.found.now k d).named) control sober parent lt revision (c.in-Some.ensures.some.1 d)
    (verdict_at dirs f c.args.found.now c.args.verdicts.now k d _ judged (c.requires.far k d c.in-Some.ensures.some.0 (c.in-Some.ensures.some.1 d)))
