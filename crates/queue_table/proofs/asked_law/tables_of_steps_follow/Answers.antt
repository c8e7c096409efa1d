-- One list after the other.
use Rattle.queue_table.proofs.AskedLemmas.{table_join, table_last}
use Rattle.queue_table.proofs.asked_law.tables_of_steps_follow.Goals as goal

pub returns-clause-joins : goal.returns-clause-joins
returns-clause-joins c = λ asked table some more. table_join asked table some more

pub returns-clause-last : goal.returns-clause-last
returns-clause-last c = λ asked table done last command asks. table_last asked table done last command asks
