use Rattle.mail_core.proofs.LawLemmas.{start_law}
use Rattle.mail_core.proofs.law.every_start_is_meant.Goals as goal

pub returns : goal.returns
returns c = λ site m turns none meant sound done id places start launch later is. start_law site m turns none sound meant done id places start launch later is
