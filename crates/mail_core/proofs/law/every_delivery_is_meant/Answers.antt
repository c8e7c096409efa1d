use Rattle.mail_core.proofs.LawLemmas.{delivery_law}
use Rattle.mail_core.proofs.law.every_delivery_is_meant.Goals as goal

pub returns : goal.returns
returns c = λ site m turns none meant sound done id places talk later is. delivery_law site m turns none sound meant done id places talk later is
