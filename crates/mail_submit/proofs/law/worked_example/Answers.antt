use Rattle.mail_submit.proofs.Examples.{ended, message, submission}
use Rattle.mail_submit.proofs.law.worked_example.Goals as goal

pub returns-clause-ended : goal.returns-clause-ended
returns-clause-ended c = ended

pub returns-clause-message : goal.returns-clause-message
returns-clause-message c = message

pub returns-clause-sent : goal.returns-clause-sent
returns-clause-sent c = submission
