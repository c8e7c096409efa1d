use Rattle.queue_plan.proofs.GroupLemmas.{some_grouped}
use Rattle.queue_plan.proofs.law.some_group.Goals as goal

pub returns : goal.returns
returns c = λ config maps macros address mailer. some_grouped c.each_run_ends.ensures config maps macros address mailer
