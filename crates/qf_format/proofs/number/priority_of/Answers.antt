use Rattle.qf_format.proofs.SignedLemmas.{below_zero, none_below}
use Rattle.qf_format.proofs.number.priority_of.Goals as goal

pub returns-in_err-number_of-in-Some : goal.returns-in_err-number_of-in-Some
returns-in_err-number_of-in-Some c = rw c.from_residual-in_err-number_of-in-Some.ensures (none_below c.args.bytes.now c.in-Some.digits.now c.in-Some.ensures.some c.in_err-number_of-in-Some.ensures)

pub returns-in_ok-number_of-in-Some : goal.returns-in_ok-number_of-in-Some
returns-in_ok-number_of-in-Some c = below_zero c.args.bytes.now c.in-Some.digits.now _ c.negative.result c.in-Some.ensures.some c.in_ok-number_of-in-Some.ensures c.negative.ensures
