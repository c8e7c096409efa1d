use Rattle.addr_test.proofs.PrintingLemmas.{some_reply}
use Rattle.addr_test.proofs.law.some_answer.Goals as goal

pub returns : goal.returns
returns c = λ maps config line. some_reply c.each_run_ends.ensures c.some_route.ensures c.some_rewriting.ensures maps config line
