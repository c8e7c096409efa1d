use Rattle.mail_core.proofs.LawLemmas.{tried_law}
use Rattle.mail_core.proofs.law.no_delivered_row_is_tried_again.Goals as goal

pub returns : goal.returns
returns c = λ site m turns none meant sound done between effect later id place is sent try. tried_law site m turns c.rows_go_on.ensures none sound meant done between effect later id place is sent try
