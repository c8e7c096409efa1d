use Rattle.std.proofs.Common.{arith}
use Rattle.cf_reader.proofs.FinishLemmas.{group_more}
use Rattle.cf_reader.proofs.finish.placed_groups.Goals as goal

pub loop-index-preserved : goal.loop-index-preserved
loop-index-preserved c =
    group_more c.args.directory.now c.args.groups.now c.loop-index.placed c.place_at.new.placed _ c.loop-index.index (omega (arith, c.loop-index-test.true, c.len-index-end.ensures)) c.in_ok-place_at.ensures c.loop-index.invariant
