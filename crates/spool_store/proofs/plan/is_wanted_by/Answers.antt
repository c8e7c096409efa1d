-- By the verdict.
use Rattle.std.proofs.Common.{subst}
use Rattle.spool_store.specs.inner.Judging.{IsVerdict}
use Rattle.spool_store.specs.inner.Finds.{spot_named}
use Rattle.spool_store.specs.inner.Sweeps.{by_strange, by_live}
use Rattle.spool_store.proofs.Carrying.{live_read}
use Rattle.spool_store.proofs.PlanLemmas.{found_says, unwanted_dead, unwanted_live}
use Rattle.spool_store.proofs.plan.is_wanted_by.Goals as goal

pub returns-in-Strange-clause-yes : goal.returns-in-Strange-clause-yes
returns-in-Strange-clause-yes c = λ dirs f found i verdict e. by_strange (spot_named dirs c.args.x.now.named) i (subst (IsVerdict dirs f (spot_named dirs c.args.x.now.named)) c.in-Strange.is verdict)

pub returns-in-Dead-clause-no : goal.returns-in-Dead-clause-no
returns-in-Dead-clause-no c = λ dirs f found i verdict e. unwanted_dead dirs f (spot_named dirs c.args.x.now.named) c.args.named.now (subst (IsVerdict dirs f (spot_named dirs c.args.x.now.named)) c.in-Dead.is verdict) i

pub returns-in-Live-clause-yes : goal.returns-in-Live-clause-yes
returns-in-Live-clause-yes c = λ dirs f found i verdict e.
    let live = subst (IsVerdict dirs f (spot_named dirs c.args.x.now.named)) c.in-Live.is verdict in
    by_live (spot_named dirs c.args.x.now.named) live.control i live.live (c.wants.ensures.yes live.control (found_says dirs f c.args.x.now live.control found (live_read live.live)) e)

pub returns-in-Live-clause-no : goal.returns-in-Live-clause-no
returns-in-Live-clause-no c = λ dirs f found i verdict e.
    let live = subst (IsVerdict dirs f (spot_named dirs c.args.x.now.named)) c.in-Live.is verdict in
    unwanted_live dirs f (spot_named dirs c.args.x.now.named) live.control c.args.named.now live.live i (c.wants.ensures.no live.control (found_says dirs f c.args.x.now live.control found (live_read live.live)) e)
