use Rattle.std.proofs.Common.{◌<◌, length, subst, arith}
use Rattle.mail_submit.proofs.held.Held.end_within.Goals as goal

pub returns-then-text_len-most-clause-large : goal.returns-then-text_len-most-clause-large
returns-then-text_len-most-clause-large c = λ dot r s is.
    subst (λ t. c.args.most < length t) (c.in_ok-close_last.ensures.text dot r s) (omega (arith, c.text_len.ensures, c.if-text_len-most.true))

pub returns-clause-within : goal.returns-clause-within
returns-clause-within c = omega (arith, c.text_len.ensures, c.if-text_len-most.false)
