use Rattle.smtp_receive.proofs.FinalLemmas.{same_id}
use Rattle.smtp_receive.proofs.law.a_final_reply_tells_its_message.Goals as goal

pub returns : goal.returns
returns c = λ one other one_fits other_fits same. same_id one other one_fits other_fits same
