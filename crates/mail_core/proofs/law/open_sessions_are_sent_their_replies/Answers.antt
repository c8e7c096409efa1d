use Rattle.mail_core.proofs.LifeLemmas.{run_converses}
use Rattle.mail_core.proofs.law.open_sessions_are_sent_their_replies.Goals as goal

pub returns : goal.returns
returns c = λ site m turns session g never here turn. run_converses site session m turns g never here turn
