use Rattle.addr_tokens.proofs.SpanLemmas.{spans_of_answer, spans_answered, uncut_of_answer, uncut_answered}
use Rattle.addr_tokens.proofs.law.spans_computed.Goals as goal

pub returns-clause-spans : goal.returns-clause-spans
returns-clause-spans c = λ alphabet angles text spans. (spans_of_answer alphabet angles text spans, spans_answered alphabet angles text spans)

pub returns-clause-fault : goal.returns-clause-fault
returns-clause-fault c = λ alphabet angles text fault other. (uncut_of_answer alphabet angles text fault, uncut_answered alphabet angles text fault other)
