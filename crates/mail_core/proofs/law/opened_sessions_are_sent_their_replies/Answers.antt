use Rattle.mail_core.proofs.LifeLemmas.{run_welcomes}
use Rattle.mail_core.proofs.law.opened_sessions_are_sent_their_replies.Goals as goal

pub returns : goal.returns
returns c = λ site m peer reading choice turns session none never. run_welcomes site session m peer reading choice turns none never
