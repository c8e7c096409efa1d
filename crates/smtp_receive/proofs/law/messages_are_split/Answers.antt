use Rattle.smtp_receive.proofs.SplitLemmas.{given_split}
use Rattle.smtp_receive.proofs.law.messages_are_split.Goals as goal

pub returns : goal.returns
returns c = λ config peer heard said line message lines gives is are. given_split config peer heard said line message lines gives is are
