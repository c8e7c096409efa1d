use Rattle.mail_core.proofs.LawLemmas.{end_law}
use Rattle.mail_core.proofs.law.every_end_is_recorded.Goals as goal

pub returns : goal.returns
returns c = λ site m turns none meant sound done id child status later is. end_law site m turns none sound meant done id child status later is
