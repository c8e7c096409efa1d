-- By the kind of the step.
use Rattle.queue_run.proofs.LawLemmas.{acted_mine}
use Rattle.queue_run.proofs.law.a_step_asks_at_most_one_command.Goals as goal

pub returns : goal.returns
returns c = λ config moment table h kind luck. (acted_mine config moment table h kind luck).few
