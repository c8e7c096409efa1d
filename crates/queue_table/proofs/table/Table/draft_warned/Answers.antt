-- By the one entry of the id.
use Rattle.queue_table.specs.Results.{with_warning}
use Rattle.queue_table.proofs.PlanLemmas.{draft_is}
use Rattle.queue_table.proofs.table.Table.draft_warned.Goals as goal

pub returns : goal.returns
returns c = λ h k has. draft_is c.args.id c.in_ok-copy.field-0 c.in_ok-control_warned.field-0 with_warning c.entry-entry.result.now h (c.entry-entry.ensures.is h k has) c.in_ok-copy.ensures c.in_ok-control_warned.ensures has
