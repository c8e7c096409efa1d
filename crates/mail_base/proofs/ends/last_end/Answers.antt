use Rattle.std.proofs.Common.{arith}
use Rattle.mail_base.specs.Texts.{is_blank}
use Rattle.mail_base.proofs.SearchLemmas.{back_some, back_none, solid_found}
use Rattle.mail_base.proofs.ends.last_end.Goals as goal

pub returns-in-Some-clause-end : goal.returns-in-Some-clause-end
returns-in-Some-clause-end c = omega (arith, c.in-Some.ensures.0.high, back_some _ is_blank solid_found c.args.text.now c.in-Some.place c.in-Some.ensures)

pub returns-in-None-clause-end : goal.returns-in-None-clause-end
returns-in-None-clause-end c = omega (arith, back_none _ is_blank solid_found c.args.text.now c.in-None.ensures)
