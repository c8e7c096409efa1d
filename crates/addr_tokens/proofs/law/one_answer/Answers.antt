use Rattle.addr_tokens.proofs.OutcomeLemmas.{some_answer, one_lexemes, one_fault, not_both}
use Rattle.addr_tokens.proofs.law.one_answer.Goals as goal

pub returns-clause-some : goal.returns-clause-some
returns-clause-some c = λ alphabet angles text. some_answer alphabet angles text

pub returns-clause-lexemes : goal.returns-clause-lexemes
returns-clause-lexemes c = λ alphabet angles text one other a b. one_lexemes alphabet angles text one other a b

pub returns-clause-fault : goal.returns-clause-fault
returns-clause-fault c = λ alphabet angles text one other a b. one_fault alphabet angles text one other a b

pub returns-clause-either : goal.returns-clause-either
returns-clause-either c = λ alphabet angles text lexemes fault a b. not_both alphabet angles text lexemes fault a b
