use Rattle.queue_plan.proofs.GroupLemmas.{one_grouped}
use Rattle.queue_plan.proofs.law.one_group.Goals as goal

pub returns : goal.returns
returns c = λ config maps macros address mailer one other r q. one_grouped c.one_outcome.ensures config maps macros address mailer r q
