-- Before the moment that is kept none may be claimed.
use Rattle.queue_table.specs.Claims.{IsQuiet}
use Rattle.bench.proofs.table.asked.Given as goal

abbrev pub invariant-loop-turn : goal.invariant-loop-turn
invariant-loop-turn l = IsQuiet l.waiting l.entries
