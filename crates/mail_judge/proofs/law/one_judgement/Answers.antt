use Rattle.mail_judge.proofs.LawLemmas.{one_said}
use Rattle.mail_judge.proofs.law.one_judgement.Goals as goal

pub returns : goal.returns
returns c = λ grounds files question one another a b. one_said c.one_check.ensures c.one_expansion.ensures grounds files question one another a b
