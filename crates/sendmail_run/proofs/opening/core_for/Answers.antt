use Rattle.std.proofs.Common.{ℕ, List, Option, None, ap, sym, ◌∙◌}
use Rattle.std.specs.Option.{option_copied}
use Rattle.mail_core.specs.Plans.{Once, Serve}
use Rattle.sendmail_run.specs.Tasks.{plan_of}
use Rattle.sendmail_run.specs.declared.task.Task.{Task}
use Rattle.sendmail_run.proofs.OpeningLemmas.{begun_once, begun_serving, manned_so, read_once, unread}
use Rattle.sendmail_run.proofs.opening.core_for.Goals as goal

pub returns-in-Session-clause-begins : goal.returns-in-Session-clause-begins
returns-in-Session-clause-begins g c =
    begun_serving c.args.task.now c.args.config.now None c.args.host c.args.table (g.C.Clock.seen c.args.clock.now) c.serving.result (ap (λ (t : Task). plan_of t) c.in-Session.is) c.serving.ensures.begins

pub returns-in-Session-clause-read : goal.returns-in-Session-clause-read
returns-in-Session-clause-read g c = unread (plan_of c.args.task.now) (g.C.Clock.seen c.args.clock.now)

pub returns-in-Daemon-clause-begins : goal.returns-in-Daemon-clause-begins
returns-in-Daemon-clause-begins g c =
    begun_serving c.args.task.now c.args.config.now c.in-Daemon.wait c.args.host c.args.table (g.C.Clock.seen c.args.clock.now) c.serving-in-Daemon.result (ap (λ (t : Task). plan_of t) c.in-Daemon.is) c.serving-in-Daemon.ensures.begins

pub returns-in-Daemon-clause-read : goal.returns-in-Daemon-clause-read
returns-in-Daemon-clause-read g c = unread (plan_of c.args.task.now) (g.C.Clock.seen c.args.clock.now)

pub returns-in-Run-clause-begins : goal.returns-in-Run-clause-begins
returns-in-Run-clause-begins g c =
    begun_once c.args.task.now c.args.config.now (option_copied c.as_ref.result) c.args.host c.args.table (g.C.Clock.seen c.args.clock.now) (g.C.Clock.seen c.now-first.new.self) c.now-first.result c.once.result (ap (λ (t : Task). plan_of t) c.in-Run.is ∙ ap (λ (o : Option (List ℕ)). Once o) (sym c.as_ref.ensures.value))
    c.now-first.ensures.told c.now-first.ensures.counted c.once.ensures.begins

pub returns-in-Run-clause-read : goal.returns-in-Run-clause-read
returns-in-Run-clause-read g c =
    read_once (plan_of c.args.task.now) (option_copied c.as_ref.result) (g.C.Clock.seen c.args.clock.now) (g.C.Clock.seen c.now-first.new.self) c.now-first.result (ap (λ (t : Task). plan_of t) c.in-Run.is ∙ ap (λ (o : Option (List ℕ)). Once o) (sym c.as_ref.ensures.value)) c.now-first.ensures.told c.now-first.ensures.counted

pub returns-in-Session-clause-manned : goal.returns-in-Session-clause-manned
returns-in-Session-clause-manned g c = manned_so c.args.config.now (Serve None) c.serving.result c.serving.ensures.manned

pub returns-in-Daemon-clause-manned : goal.returns-in-Daemon-clause-manned
returns-in-Daemon-clause-manned g c = manned_so c.args.config.now (Serve c.in-Daemon.wait) c.serving-in-Daemon.result c.serving-in-Daemon.ensures.manned

pub returns-in-Run-clause-manned : goal.returns-in-Run-clause-manned
returns-in-Run-clause-manned g c = manned_so c.args.config.now (Once (option_copied c.as_ref.result)) c.once.result c.once.ensures.manned
