use Rattle.std.proofs.Common.{Some}
use Rattle.ruleset_run.proofs.Unique.{one_top}
use Rattle.ruleset_run.proofs.law.one_outcome.Goals as goal

pub returns : goal.returns
returns c = λ site macros name tokens one another run other. one_top site (Some name) tokens 0 macros 50 one another run other
