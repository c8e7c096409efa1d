use Rattle.qf_format.proofs.LawLemmas.{spelled_once}
use Rattle.qf_format.proofs.law.one_spelling.Goals as goal

pub returns : goal.returns
returns c = λ one another formed other same. spelled_once one another formed other same
