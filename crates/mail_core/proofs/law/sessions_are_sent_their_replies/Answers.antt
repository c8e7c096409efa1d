use Rattle.mail_core.proofs.SpokenLemmas.{run_told}
use Rattle.mail_core.proofs.law.sessions_are_sent_their_replies.Goals as goal

pub returns : goal.returns
returns c = λ site m turns session g now never before after. run_told site session m turns g now never before after
