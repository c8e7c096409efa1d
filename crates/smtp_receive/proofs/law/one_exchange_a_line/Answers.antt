use Rattle.smtp_receive.proofs.DialogueLemmas.{dialogue_more}
use Rattle.smtp_receive.proofs.law.one_exchange_a_line.Goals as goal

pub returns : goal.returns
returns c = λ config peer heard next. dialogue_more config peer heard next
