use Rattle.addr_tokens.proofs.OutcomeLemmas.{one_cut}
use Rattle.addr_tokens.proofs.law.one_cutting.Goals as goal

pub returns : goal.returns
returns c = λ alphabet text one other a b. one_cut alphabet text one other a b
