use Rattle.queue_table.specs.Directories.{terms_of}
use Rattle.sendmail_run.specs.Tasks.{plan_of}
use Rattle.sendmail_run.proofs.OpeningLemmas.{begun_over, queue_over, unread}
use Rattle.sendmail_run.proofs.opening.core_over.Goals as goal

-- there is no memory
pub returns-in_err-host-clause-read : goal.returns-in_err-host-clause-read
returns-in_err-host-clause-read g c = unread (plan_of c.args.task.now) (g.C.Clock.seen c.args.clock.now)

pub returns-in_err-table-clause-read : goal.returns-in_err-table-clause-read
returns-in_err-table-clause-read g c = unread (plan_of c.args.task.now) (g.C.Clock.seen c.args.clock.now)

pub returns-clause-begins : goal.returns-clause-begins
returns-clause-begins g c =
    begun_over c.args.config.now c.args.queue c.in_ok-table.table c.in_ok-host.host c.args.task.now (g.C.Clock.seen c.args.clock.now) (g.C.Clock.seen c.core_for.new.clock) c.core_for.result c.in_ok-host.ensures c.in_ok-table.ensures c.requires.whole c.requires.dirs c.core_for.ensures.begins

pub returns-clause-queue : goal.returns-clause-queue
returns-clause-queue g c = queue_over c.args.queue c.in_ok-table.table (terms_of c.args.config.now) c.core_for.result c.in_ok-table.ensures c.core_for.ensures.table
