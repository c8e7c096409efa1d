use Rattle.queue_table.specs.Calls.{store}
use Rattle.mail_core.proofs.CountLemmas.{least_same}
use Rattle.mail_core.proofs.law.what_waits_longest_is_claimed.Goals as goal

pub returns : goal.returns
returns c = λ site w seats kept table moment found counted holds least. least_same site w seats counted moment (store kept).entries table.entries found holds.entries least
