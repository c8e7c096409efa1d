use Rattle.submit_run.proofs.OneLemmas.{one_outcome}
use Rattle.submit_run.proofs.law.one_outcome.Goals as goal

pub returns : goal.returns
returns c = λ grounds files words text one another a b. one_outcome c.one_expansion.ensures grounds files words c.one_submission.ensures text one another a b
