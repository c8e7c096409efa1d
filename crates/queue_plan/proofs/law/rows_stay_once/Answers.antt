use Rattle.queue_plan.specs.Rows.{same_row}
use Rattle.queue_plan.proofs.FirstLemmas.{apart_firsts, find_firsts}
use Rattle.queue_plan.proofs.RowLemmas.{rows_equiv}
use Rattle.queue_plan.proofs.law.rows_stay_once.Goals as goal

pub returns-clause-first : goal.returns-clause-first
returns-clause-first c = λ rows row. find_firsts same_row rows_equiv row rows

pub returns-clause-apart : goal.returns-clause-apart
returns-clause-apart c = λ rows. apart_firsts same_row rows_equiv rows
