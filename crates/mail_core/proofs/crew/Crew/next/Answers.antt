-- What is quiet of the entries is quiet of the table's.
use Rattle.std.proofs.Common.{subst}
use Rattle.queue_table.specs.Claims.{IsQuiet}
use Rattle.mail_core.proofs.crew.Crew.next.Goals as goal

pub returns-in-None-clause-quiet : goal.returns-in-None-clause-quiet
returns-in-None-clause-quiet c = subst (IsQuiet c.least_due.new.self) c.entries-entries.ensures.is c.least_due.ensures.quiet
