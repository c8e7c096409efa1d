use Rattle.mail_core.proofs.ManyLemmas.{run_open}
use Rattle.mail_core.proofs.law.sessions_stay_few.Goals as goal

pub returns : goal.returns
returns c = λ site m turns few. run_open site m turns few
