-- The least of all.
use Rattle.queue_table.proofs.ClaimLemmas.{least_is}
use Rattle.queue_table.proofs.waiting.Waiting.least_due.Goals as goal

pub returns-in-Some-clause-is : goal.returns-in-Some-clause-is
returns-in-Some-clause-is c = least_is c.args.self.now c.args.moment c.args.entries.now c.in-Some.place c.at.result.now c.in-Some.ensures c.at.ensures
