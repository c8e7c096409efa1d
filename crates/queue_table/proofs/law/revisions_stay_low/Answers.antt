-- By the command.
use Rattle.queue_table.proofs.LowLemmas.{low_after, low_run, low_stops, stops_may}
use Rattle.queue_table.proofs.law.revisions_stay_low.Goals as goal

pub returns-clause-command : goal.returns-clause-command
returns-clause-command c = λ most table command low. low_after most table command low

pub returns-clause-run : goal.returns-clause-run
returns-clause-run c = λ most table commands low. low_run most table commands low

pub returns-clause-stops : goal.returns-clause-stops
returns-clause-stops c = λ most table commands low lt. low_stops most table commands low lt

pub returns-clause-may : goal.returns-clause-may
returns-clause-may c = λ kept table command holds low. stops_may kept table command holds low
