-- By the verdict above.
use Rattle.std.proofs.Common.{subst, arith}
use Rattle.spool_store.specs.Verdicts.{IsLiveAt}
use Rattle.spool_store.specs.inner.Judging.{IsVerdict}
use Rattle.spool_store.proofs.Verdicts.{verdict_strange, verdict_dead, verdict_lower, verdict_live}
use Rattle.spool_store.proofs.judged.below.Goals as goal

pub returns-in-Strange : goal.returns-in-Strange
returns-in-Strange c = λ dirs f s a control sober parent lt revision i above. verdict_strange dirs f s a control c.args.parent.now sober parent lt i (subst (IsVerdict dirs f a) c.in-Strange.is above)

pub returns-in-Dead : goal.returns-in-Dead
returns-in-Dead c = λ dirs f s a control sober parent lt revision i above. verdict_dead dirs f s a control c.args.parent.now sober parent lt i (subst (IsVerdict dirs f a) c.in-Dead.is above)

pub returns-then-own-parent : goal.returns-then-own-parent
returns-then-own-parent c = λ dirs f s a control sober parent lt revision i above. verdict_lower dirs f s a control c.args.parent.now c.in-Live.own sober parent lt i (subst (IsVerdict dirs f a) c.in-Live.is above) c.if-own-parent.true

pub returns-else-own-parent : goal.returns-else-own-parent
returns-else-own-parent c = λ dirs f s a control sober parent lt revision i above. subst (IsLiveAt dirs f s) revision (verdict_live dirs f s a control c.args.parent.now c.in-Live.own sober parent lt i (subst (IsVerdict dirs f a) c.in-Live.is above) (omega (arith, c.if-own-parent.false)))
