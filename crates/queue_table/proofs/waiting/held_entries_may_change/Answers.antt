-- What is held may not be claimed before and after.
use Rattle.queue_table.proofs.ClaimLemmas.{change_quiet, finish_quiet}
use Rattle.queue_table.proofs.waiting.held_entries_may_change.Goals as goal

pub returns-clause-control : goal.returns-clause-control
returns-clause-control c = λ w entries id control held quiet. change_quiet w entries id control held quiet

pub returns-clause-finish : goal.returns-clause-finish
returns-clause-finish c = λ w entries id quiet. finish_quiet w entries id quiet
