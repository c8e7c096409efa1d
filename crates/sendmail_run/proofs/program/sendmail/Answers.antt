use Rattle.mail_core.specs.Seen.{beside, hands}
use Rattle.sendmail_run.specs.Devices.{world}
use Rattle.sendmail_run.proofs.CompleteLemmas.{completes}
use Rattle.sendmail_run.proofs.program.sendmail.Goals as goal

pub returns-clause-ends : goal.returns-clause-ends
returns-clause-ends g c = c.run.ensures.ends

pub returns-clause-stays : goal.returns-clause-stays
returns-clause-stays g c = c.run.ensures.stays

pub returns-clause-complete : goal.returns-clause-complete
returns-clause-complete g c =
    completes c.args.arguments.now
    (world (g.F.Files.seen c.args.files.now) (g.I.Source.seen c.args.input.now) (g.O.Sink.seen c.args.output.now) (g.L.Floor.seen c.args.floor.now) (g.D.Spool.seen c.args.spool.now) (beside (g.C.Clock.seen c.args.clock.now) (hands (g.S.Spawner.seen c.args.spawner.now) (g.N.Dialer.seen c.args.dialer.now))))
    (world (g.F.Files.seen c.run.new.files) (g.I.Source.seen c.run.new.input) (g.O.Sink.seen c.run.new.output) (g.L.Floor.seen c.run.new.floor) (g.D.Spool.seen c.run.new.spool) (beside (g.C.Clock.seen c.run.new.clock) (hands (g.S.Spawner.seen c.run.new.spawner) (g.N.Dialer.seen c.run.new.dialer))))
    c.run.result c.run.ensures.ends
