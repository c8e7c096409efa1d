use Rattle.mail_core.proofs.ManyLemmas.{run_apart}
use Rattle.mail_core.proofs.law.other_sessions_change_nothing.Goals as goal

pub returns : goal.returns
returns c = λ site m turns session others. run_apart site session m turns others
