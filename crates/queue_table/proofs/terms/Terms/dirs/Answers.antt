use Rattle.std.proofs.Common.{arith}
use Rattle.queue_table.proofs.DirLemmas.{each_is_there, group_more, groups_over}
use Rattle.queue_table.proofs.terms.Terms.dirs.Goals as goal

pub loop-index-preserved : goal.loop-index-preserved
loop-index-preserved c =
    group_more c.args.self.now.groups c.loop-index.dirs c.add_group.new.dirs _ c.loop-index.index (omega (arith, c.loop-index-test.true, c.len-index-end.ensures)) c.in_ok-add_group.ensures c.loop-index.invariant

pub returns-clause-each : goal.returns-clause-each
returns-clause-each c =
    each_is_there c.args.self.now c.loop-index.dirs (groups_over c.args.self.now.groups c.loop-index.dirs _ c.loop-index.index (omega (arith, c.loop-index-test.false, c.len-index-end.ensures)) c.loop-index.invariant)
