use Rattle.queue_plan.proofs.CountLemmas.{parts_filled}
use Rattle.queue_plan.proofs.LawLemmas.{limit_kept, rows_parted}
use Rattle.queue_plan.proofs.law.rows_have_parts.Goals as goal

pub returns-clause-rows : goal.returns-clause-rows
returns-clause-rows c = λ config rows groups heading. rows_parted config rows groups heading

pub returns-clause-limit : goal.returns-clause-limit
returns-clause-limit c = λ config rows groups. limit_kept config rows groups

pub returns-clause-filled : goal.returns-clause-filled
returns-clause-filled c = λ config rows groups. parts_filled config rows groups
