-- By the command.
use Rattle.queue_table.proofs.GoingLemmas.{command_goes}
use Rattle.queue_table.proofs.law.rows_go_on.Goals as goal

pub returns : goal.returns
returns c = λ table command sound can. command_goes table command sound can
