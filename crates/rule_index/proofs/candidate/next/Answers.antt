use Rattle.std.proofs.Common.{◌+◌, take, arith}
use Rattle.std.specs.Option.{option_copied}
use Rattle.rule_index.proofs.FirstLemmas.{ascends_free, ascends_anchored, starts, goes_on, taken}
use Rattle.rule_index.proofs.candidate.next.Goals as goal

pub first_from-least-requires : goal.first_from-least-requires
first_from-least-requires c = ascends_free c.args.set.now.rules c.free.result.now c.free.ensures

pub loop-token-init : goal.loop-token-init
loop-token-init c = starts c.args.set.now.rules c.args.from (option_copied c.first_from-least.result) c.free.result.now c.free.ensures c.first_from-least.ensures

pub first_from-requires : goal.first_from-requires
first_from-requires c = ascends_anchored c.token-item.result c.args.set.now.rules c.anchored.result.now c.anchored.ensures

pub loop-token-preserved : goal.loop-token-preserved
loop-token-preserved c =
    goes_on c.args.set.now.rules c.args.from (take c.loop-token.token-index c.items-token-items.result.now) (take (c.loop-token.token-index + 1) c.items-token-items.result.now) c.token-item.result
    (option_copied c.loop-token.least) (option_copied c.first_from.result) (option_copied c.earlier-least.result) c.anchored.result.now c.loop-token.invariant c.anchored.ensures c.first_from.ensures c.earlier-least.ensures
    (taken c.items-token-items.result.now c.loop-token.token-index c.token-item.result (omega (arith, c.loop-token-test.true)) c.token-item.is)
