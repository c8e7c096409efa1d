-- By the one entry of the id.
use Rattle.queue_table.specs.inner.Planning.{control_by}
use Rattle.queue_table.proofs.PlanLemmas.{draft_is}
use Rattle.queue_table.proofs.table.Table.draft_back.Goals as goal

pub returns : goal.returns
returns c = λ h k has. draft_is c.args.id c.in_ok-copy.field-0 c.in_ok-control_back.field-0 (control_by c.args.bounce) c.entry-entry.result.now h (c.entry-entry.ensures.is h k has) c.in_ok-copy.ensures c.in_ok-control_back.ensures has
