-- A live entry's control file says its control.
use Rattle.std.proofs.Common.{subst}
use Rattle.spool_store.specs.inner.Judging.{IsVerdict}
use Rattle.spool_store.specs.inner.Finds.{spot_named}
use Rattle.spool_store.proofs.Carrying.{live_read}
use Rattle.spool_store.proofs.PlanLemmas.{found_says}
use Rattle.spool_store.proofs.plan.is_closed.Goals as goal

pub returns-in-Live-clause-yes : goal.returns-in-Live-clause-yes
returns-in-Live-clause-yes c = λ dirs f found verdict e.
    let live = subst (IsVerdict dirs f (spot_named dirs c.args.x.now.named)) c.in-Live.is verdict in
    record { kind = c.is_spent.ensures.kind e; control = live.control; live = live.live; closed = c.is_spent.ensures.yes live.control (found_says dirs f c.args.x.now live.control found (live_read live.live)) e }

pub returns-in-Live-clause-no : goal.returns-in-Live-clause-no
returns-in-Live-clause-no c = λ dirs f found verdict e done. done.closed (c.is_spent.ensures.no done.control (found_says dirs f c.args.x.now done.control found (live_read done.live)) e done.kind)
