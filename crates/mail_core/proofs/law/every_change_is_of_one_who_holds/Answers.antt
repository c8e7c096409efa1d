use Rattle.mail_core.proofs.LawLemmas.{change_law}
use Rattle.mail_core.proofs.law.every_change_is_of_one_who_holds.Goals as goal

pub returns : goal.returns
returns c = λ site m turns none meant sound done command later id is own. change_law site m turns none sound meant done command later id is own
