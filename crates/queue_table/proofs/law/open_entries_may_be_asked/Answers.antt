-- By the rows that are open.
use Rattle.queue_table.proofs.OpenLemmas.{reserve_asked, return_asked, warn_asked}
use Rattle.queue_table.proofs.law.open_entries_may_be_asked.Goals as goal

pub returns-clause-returns : goal.returns-clause-returns
returns-clause-returns c = λ kept table s terms bounces moment holds among failed are. return_asked kept table s terms bounces moment holds among failed are

pub returns-clause-warns : goal.returns-clause-warns
returns-clause-warns c = λ kept table s terms warning moment holds among queued cuts. warn_asked kept table s terms warning moment holds among queued cuts

pub returns-clause-reserves : goal.returns-clause-reserves
returns-clause-reserves c = λ kept table s places holds among queued tried. reserve_asked kept table s places holds among queued tried
