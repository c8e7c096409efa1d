use Rattle.std.proofs.Common.{◌∙◌}
use Rattle.cf_macros.proofs.StackLemmas.{any-silent}
use Rattle.cf_macros.proofs.expansion.is_silent.Goals as goal

pub returns : goal.returns
returns c = c.any_tests.ensures ∙ any-silent c.args.below.now
