-- One command after the other.
use Rattle.queue_table.proofs.CommandLemmas.{applied_append}
use Rattle.queue_table.proofs.law.commands_follow.Goals as goal

pub returns : goal.returns
returns c = λ table some more. applied_append table some more
