use Rattle.smtp_receive.proofs.FormLemmas.{given_formed}
use Rattle.smtp_receive.proofs.law.messages_have_forms.Goals as goal

pub returns : goal.returns
returns c = λ config peer heard said line message formed gives. given_formed config peer heard said line message formed gives
