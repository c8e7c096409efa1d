use Rattle.ruleset_run.proofs.RewriteLemmas.{one_rewrites}
use Rattle.ruleset_run.proofs.law.one_rewriting.Goals as goal

pub returns : goal.returns
returns c = λ site macros sets address one another r s. one_rewrites c.one_outcome.ensures site macros r s
