use Rattle.std.proofs.Common.{arith, ◌∙◌}
use Rattle.rule_index.proofs.FirstLemmas.{found_at}
use Rattle.rule_index.proofs.candidate.first_from.Goals as goal

pub returns : goal.returns
returns c =
    c.one_at.ensures ∙ found_at c.args.from c.args.bucket.now c.halving.low c.halving.invariant.below (λ k one le is. c.halving.invariant.above k one (omega (arith, le, c.halving-test.false)) is)
