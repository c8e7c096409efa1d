use Rattle.addr_tokens.proofs.OutcomeLemmas.{lexemes_of_answer, lexemes_answered, has_of_answer, fault_answered}
use Rattle.addr_tokens.proofs.PlainLemmas.{tokens_of_answer, tokens_answered}
use Rattle.addr_tokens.proofs.law.computed.Goals as goal

pub returns-clause-lexemes : goal.returns-clause-lexemes
returns-clause-lexemes c = λ alphabet angles text lexemes. (lexemes_of_answer alphabet angles text lexemes, lexemes_answered alphabet angles text lexemes)

pub returns-clause-fault : goal.returns-clause-fault
returns-clause-fault c = λ alphabet angles text fault. (has_of_answer alphabet angles text fault, fault_answered alphabet angles text fault)

pub returns-clause-tokens : goal.returns-clause-tokens
returns-clause-tokens c = λ alphabet angles text tokens plain. (tokens_of_answer alphabet angles text tokens plain, tokens_answered alphabet angles text tokens)
