use Rattle.mail_core.proofs.LifeLemmas.{run_unopened}
use Rattle.mail_core.proofs.law.sessions_that_are_not_open_are_sent_nothing.Goals as goal

pub returns : goal.returns
returns c = λ site m turns session never here. run_unopened site session m turns never here
