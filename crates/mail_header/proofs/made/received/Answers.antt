use Rattle.std.proofs.Common.{sym, subst}
use Rattle.mail_base.specs.Texts.{IsHeader}
use Rattle.mail_header.proofs.MadeLemmas.{made_header}
use Rattle.mail_header.proofs.made.received.Goals as goal

pub returns-in_ok-header-in-Some-clause-header : goal.returns-in_ok-header-in-Some-clause-header
returns-in_ok-header-in-Some-clause-header c = subst IsHeader (sym c.in_ok-header-in-Some.ensures) (made_header c.args.macros.now c.in-Some.line.now)
