use Rattle.command_line.proofs.CommandLemmas.{gives_says}
use Rattle.command_line.proofs.reading.words.Goals as goal

pub returns : goal.returns
returns c = gives_says c.args.words.now c.mode_of.result c.mode_of.ensures
