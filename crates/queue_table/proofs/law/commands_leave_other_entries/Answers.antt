-- By the command.
use Rattle.queue_table.proofs.StayLemmas.{command_makes}
use Rattle.queue_table.proofs.law.commands_leave_other_entries.Goals as goal

pub returns-clause-stays : goal.returns-clause-stays
returns-clause-stays c = λ table command s k ne. (command_makes table command).stays s k ne

pub returns-clause-came : goal.returns-clause-came
returns-clause-came c = λ table command s k lt ne. (command_makes table command).came s k lt ne

pub returns-clause-found : goal.returns-clause-found
returns-clause-found c = λ table command id lt ne. (command_makes table command).found id lt ne
