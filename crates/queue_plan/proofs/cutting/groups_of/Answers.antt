-- One row more has its group.
use Rattle.queue_plan.proofs.CutLemmas.{grouped_more, lines_more}
use Rattle.queue_plan.proofs.cutting.groups_of.Goals as goal

pub loop-row-preserved : goal.loop-row-preserved
loop-row-preserved c =
    let l = c.loop-row in
    let a = c.args in record {
      are = rw c.in_ok-push.ensures.ok (grouped_more a.config.now a.maps.now a.macros.now a.rows.now l.row-index c.row-item.result l.groups c.in_ok-group.group c.loop-row-test.true c.row-item.is l.invariant.are c.in_ok-group.ensures.is);
      lines = rw c.in_ok-push.ensures.ok (lines_more l.groups c.in_ok-group.group l.invariant.lines c.in_ok-group.ensures.line);
    }
