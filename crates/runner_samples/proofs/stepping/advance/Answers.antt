-- Whatever the bodies of the table are.
use Rattle.runner_samples.proofs.Lemmas.{goes_on}
use Rattle.runner_samples.proofs.stepping.advance.Goals as goal

pub returns-clause-goes : goal.returns-clause-goes
returns-clause-goes g c = goes_on _ _ _ _ _ _ _ _ c.step.ensures.steps
