use Rattle.alias_expand.proofs.JoinLemmas.{merged_more}
use Rattle.alias_expand.proofs.lines.grouped.Goals as goal

pub loop-line-preserved : goal.loop-line-preserved
loop-line-preserved c =
    merged_more c.loop-line.lines.items c.hear.new.lines.items c.line-item.result c.args.joined.now c.loop-line.line-index c.loop-line-test.true c.line-item.is c.in_ok-hear.ensures c.loop-line.invariant
