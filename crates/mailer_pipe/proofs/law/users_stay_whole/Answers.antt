use Rattle.mailer_pipe.proofs.LiteralLemmas.{user_stays}
use Rattle.mailer_pipe.proofs.law.users_stay_whole.Goals as goal

pub returns : goal.returns
returns c = user_stays
