-- There is no memory before the queue is opened.
use Rattle.std.proofs.Common.{false, refl}
use Rattle.mail_core.specs.Seen.{hands}
use Rattle.sendmail_run.specs.Serving.{site_of}
use Rattle.sendmail_run.specs.Tasks.{plan_of}
use Rattle.sendmail_run.proofs.OpeningLemmas.{untouched}
use Rattle.sendmail_run.proofs.ServingLemmas.{files_kept}
use Rattle.sendmail_run.proofs.serving_mode.serving_mode.Goals as goal

pub returns-in_default-clause-serves : goal.returns-in_default-clause-serves
returns-in_default-clause-serves g c = untouched (site_of c.args.config.now c.args.maps.now (plan_of c.args.task.now)) (g.D.Spool.seen c.args.spool.now) (g.L.Floor.seen c.args.floor.now) (g.C.Clock.seen c.args.clock.now) (hands (g.S.Spawner.seen c.args.spawner.now) (g.N.Dialer.seen c.args.dialer.now))

pub returns-in_default-clause-asks : goal.returns-in_default-clause-asks
returns-in_default-clause-asks g c = files_kept (g.F.Files.seen c.args.files.now) (g.F.Files.seen c.args.files.now) false refl refl

pub returns-in_default-door-clause-serves : goal.returns-in_default-door-clause-serves
returns-in_default-door-clause-serves g c = untouched (site_of c.args.config.now c.args.maps.now (plan_of c.args.task.now)) (g.D.Spool.seen c.args.spool.now) (g.L.Floor.seen c.args.floor.now) (g.C.Clock.seen c.args.clock.now) (hands (g.S.Spawner.seen c.args.spawner.now) (g.N.Dialer.seen c.args.dialer.now))

pub returns-in_default-door-clause-asks : goal.returns-in_default-door-clause-asks
returns-in_default-door-clause-asks g c = files_kept (g.F.Files.seen c.args.files.now) (g.F.Files.seen c.args.files.now) false refl refl
