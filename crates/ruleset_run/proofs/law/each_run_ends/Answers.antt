use Rattle.std.proofs.Common.{Some, arith}
use Rattle.ruleset_run.proofs.Ends.{set_ends}
use Rattle.ruleset_run.proofs.law.each_run_ends.Goals as goal

pub returns : goal.returns
returns c = λ site macros name tokens. let w = set_ends c.each_choice.ensures site 50 (Some name) tokens 0 macros (omega arith) in (w.0, w.1)
