use Rattle.std.proofs.Common.{nat_lt, ap, ◌∙◌}
use Rattle.mail_header.proofs.WholeLemmas.{some_is}
use Rattle.mail_header.proofs.whole.has_some.Goals as goal

pub returns : goal.returns
returns c = ap (nat_lt 0) c.len.ensures ∙ some_is c.args.headers.now
