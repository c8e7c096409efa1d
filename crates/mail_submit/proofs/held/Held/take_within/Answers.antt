use Rattle.std.proofs.Common.{arith}
use Rattle.mail_submit.proofs.ReadLemmas.{above_more}
use Rattle.mail_submit.proofs.held.Held.take_within.Goals as goal

pub returns-then-size-most-clause-large : goal.returns-then-size-most-clause-large
returns-then-size-most-clause-large c = λ dot r s is.
    above_more c.args.self.now c.take.new.self c.args.piece.now c.args.most c.in_ok-take.ensures.ok (omega (arith, c.size.ensures, c.if-size-most.true)) dot r s

pub returns-clause-within : goal.returns-clause-within
returns-clause-within c = omega (arith, c.size.ensures, c.if-size-most.false)
