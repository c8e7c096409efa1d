use Rattle.mail_core.proofs.ManyLemmas.{turned_so}
use Rattle.mail_core.proofs.law.one_session_more_is_turned_away.Goals as goal

pub returns : goal.returns
returns c = λ site m session peer reading whole on awaited new full. turned_so site m session peer reading whole on awaited new full
