use Rattle.std.proofs.Common.{sym, ◌∙◌}
use Rattle.mail_submit.proofs.ReadLemmas.{plain_end, return_end}
use Rattle.mail_submit.proofs.line.line_end.Goals as goal

pub returns-then-ends_in_return : goal.returns-then-ends_in_return
returns-then-ends_in_return c = return_end c.args.line.now (sym c.ends_in_return.ensures ∙ c.if-ends_in_return.true)

pub returns : goal.returns
returns c = plain_end c.args.line.now (sym c.ends_in_return.ensures ∙ c.if-ends_in_return.false)
