use Rattle.command_line.proofs.LineLemmas.{submit_lines}
use Rattle.command_line.proofs.law.submitted_words_are_lines.Goals as goal

pub returns : goal.returns
returns c = λ words mode mail line job. submit_lines words mode mail line job
