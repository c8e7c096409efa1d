use Rattle.std.proofs.Common.{◌∙◌}
use Rattle.mail_header.proofs.GatherLemmas.{block_large}
use Rattle.mail_header.proofs.gathered.Gathered.is_large_block.Goals as goal

pub returns-clause-lines : goal.returns-clause-lines
returns-clause-lines c = λ limit lines split gathers are is small. c.is_large.ensures ∙ block_large c.args.self.now limit lines split gathers are is small
