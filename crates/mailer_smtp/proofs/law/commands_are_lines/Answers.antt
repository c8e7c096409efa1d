use Rattle.mailer_smtp.proofs.PlanLemmas.{delivery_size, delivery_written}
use Rattle.mailer_smtp.proofs.law.commands_are_lines.Goals as goal

pub returns-clause-lines : goal.returns-clause-lines
returns-clause-lines c = λ speech letter peers missed now events front back fault rows line text h e. delivery_written speech letter peers missed now events front back fault rows line text h e

pub returns-clause-rows : goal.returns-clause-rows
returns-clause-rows c = λ speech letter peers missed now events fault rows h. delivery_size speech letter peers missed now events fault rows h
