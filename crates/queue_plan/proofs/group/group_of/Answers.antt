use Rattle.mail_base.specs.Texts.{IsLine}
use Rattle.queue_plan.specs.Groups.{IsGroupName}
use Rattle.queue_plan.proofs.GroupLemmas.{named_line, ok_so}
use Rattle.queue_plan.proofs.group.group_of.Goals as goal

pub returns-clause-line : goal.returns-clause-line
returns-clause-line c = ok_so (IsGroupName c.args.config.now) IsLine (named_line c.args.config.now) c.grouped.result c.grouped.ensures.name
