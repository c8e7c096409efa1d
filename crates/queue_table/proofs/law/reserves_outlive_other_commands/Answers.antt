-- By the entry of the table, before and after.
use Rattle.queue_table.proofs.StayLemmas.{held_stays, reserve_finishes, reserve_stays}
use Rattle.queue_table.proofs.law.reserves_outlive_other_commands.Goals as goal

pub returns-clause-entries : goal.returns-clause-entries
returns-clause-entries c = λ old new table command h was is k ne. held_stays old new table command h was is k ne

pub returns-clause-reserved : goal.returns-clause-reserved
returns-clause-reserved c = λ old new table command reserved was is ne r. reserve_stays old new table command reserved was is ne r

pub returns-clause-finish : goal.returns-clause-finish
returns-clause-finish c = λ entries id reserved r. reserve_finishes entries id reserved r
