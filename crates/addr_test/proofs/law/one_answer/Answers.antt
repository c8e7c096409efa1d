use Rattle.addr_test.proofs.PrintingLemmas.{one_reply}
use Rattle.addr_test.proofs.law.one_answer.Goals as goal

pub returns-clause-reply : goal.returns-clause-reply
returns-clause-reply c = λ maps config line one another after later e f. (one_reply c.one_outcome.ensures c.one_route.ensures c.one_rewriting.ensures maps config line one another after later e f).0

pub returns-clause-config : goal.returns-clause-config
returns-clause-config c = λ maps config line one another after later e f. (one_reply c.one_outcome.ensures c.one_route.ensures c.one_rewriting.ensures maps config line one another after later e f).1
