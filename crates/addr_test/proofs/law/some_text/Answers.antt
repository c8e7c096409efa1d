use Rattle.addr_test.proofs.PrintingLemmas.{some_printed}
use Rattle.addr_test.proofs.law.some_text.Goals as goal

pub returns : goal.returns
returns c = λ maps config lines. some_printed c.some_answer.ensures maps lines config
