use Rattle.ruleset_run.proofs.RewriteLemmas.{some_rewrites}
use Rattle.ruleset_run.proofs.law.some_rewriting.Goals as goal

pub returns : goal.returns
returns c = λ site macros sets address. some_rewrites c.each_run_ends.ensures site macros sets address
