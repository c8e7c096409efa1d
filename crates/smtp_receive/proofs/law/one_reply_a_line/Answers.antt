use Rattle.smtp_receive.proofs.DialogueLemmas.{replies_more, told_reply}
use Rattle.smtp_receive.proofs.law.one_reply_a_line.Goals as goal

pub returns-clause-more : goal.returns-clause-more
returns-clause-more c = λ config host peer heard next. replies_more config host peer heard next

pub returns-clause-told : goal.returns-clause-told
returns-clause-told c = λ host limit answer. told_reply host limit answer
