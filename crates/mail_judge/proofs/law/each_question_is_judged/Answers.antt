use Rattle.mail_judge.proofs.LawLemmas.{some_check, some_said}
use Rattle.mail_judge.proofs.law.each_question_is_judged.Goals as goal

pub returns : goal.returns
returns c = λ grounds files question. some_said (λ config maps macros set address. some_check c.some_rewriting.ensures config maps macros set address) c.some_expansion.ensures grounds files question
