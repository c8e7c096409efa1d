use Rattle.mail_core.proofs.LawLemmas.{lasts_law}
use Rattle.mail_core.proofs.law.rows_only_go_on.Goals as goal

pub returns : goal.returns
returns c = λ site m turns none meant sound s among. lasts_law site m turns c.rows_go_on.ensures none sound meant s among
