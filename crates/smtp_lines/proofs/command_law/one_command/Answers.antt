use Rattle.smtp_lines.proofs.CommandLemmas.{order_read, one_read}
use Rattle.smtp_lines.proofs.command_law.one_command.Goals as goal

pub returns-clause-some : goal.returns-clause-some
returns-clause-some c = λ line. order_read line

pub returns-clause-one : goal.returns-clause-one
returns-clause-one c = λ line one other a b. one_read line one other a b
