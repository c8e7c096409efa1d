-- By the command.
use Rattle.queue_table.proofs.SoundLemmas.{command_sound}
use Rattle.queue_table.proofs.law.commands_keep_soundness.Goals as goal

pub returns : goal.returns
returns c = λ table command sound can. command_sound table command sound can
