use Rattle.mail_core.proofs.ManyLemmas.{sent_alike}
use Rattle.mail_core.proofs.law.a_session_is_sent_what_it_would_be_sent_alone.Goals as goal

pub returns : goal.returns
returns c = λ site m alone turns own session g now other never nor turn here there is are same. sent_alike site session m alone turns own g now other never nor turn here there is are same
