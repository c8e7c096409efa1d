use Rattle.smtp_receive.proofs.FinalLemmas.{told_final, greeting_final, memory_final, sessions_final}
use Rattle.smtp_receive.proofs.law.no_other_reply_is_final.Goals as goal

pub returns-clause-lines : goal.returns-clause-lines
returns-clause-lines c = λ config host peer limit heard said line text formed is final. told_final config host peer limit heard said line text formed is final

pub returns-clause-greeting : goal.returns-clause-greeting
returns-clause-greeting c = λ host final. greeting_final host final

pub returns-clause-memory : goal.returns-clause-memory
returns-clause-memory c = λ final. memory_final final

pub returns-clause-sessions : goal.returns-clause-sessions
returns-clause-sessions c = λ final. sessions_final final
