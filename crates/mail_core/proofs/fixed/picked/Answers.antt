-- One entry after another.
use Rattle.std.proofs.Common.{arith}
use Rattle.mail_core.proofs.PickingLemmas.{pick_more}
use Rattle.mail_core.proofs.fixed.picked.Goals as goal

pub loop-held-preserved : goal.loop-held-preserved
loop-held-preserved c =
    let l = c.loop-held in
    pick_more c.args.groups.now c.args.due.now l.held-index c.held-item.result l.list c.pick.new.list _ l.counts c.pick.new.counts (omega arith) c.held-item.is l.invariant c.in_ok-pick.ensures
