use Rattle.mail_core.specs.Seen.{beside, hands}
use Rattle.sendmail_run.specs.declared.outcome.Outcome.TheVariants.{FilesFault}
use Rattle.sendmail_run.specs.Outcomes.{of_config}
use Rattle.sendmail_run.proofs.ProgramLemmas.{counts, ends_at_words, ends_at_file, ends_at_work, stays_at_words, stays_at_file, stays_at_work, well_said}
use Rattle.sendmail_run.proofs.program.run.Goals as goal

pub returns-in-Err-clause-ends : goal.returns-in-Err-clause-ends
returns-in-Err-clause-ends g c =
    ends_at_words c.args.arguments.now (g.F.Files.seen c.args.files.now) (g.I.Source.seen c.args.input.now) (g.O.Sink.seen c.args.output.now) (g.L.Floor.seen c.args.floor.now) (g.D.Spool.seen c.args.spool.now) (beside (g.C.Clock.seen c.args.clock.now) (hands (g.S.Spawner.seen c.args.spawner.now) (g.N.Dialer.seen c.args.dialer.now)))
    c.in-Err.fault c.of_words.result c.of_words.ensures c.in-Err.ensures

pub returns-in-Err-clause-stays : goal.returns-in-Err-clause-stays
returns-in-Err-clause-stays g c =
    stays_at_words (g.F.Files.seen c.args.files.now) (g.I.Source.seen c.args.input.now) (g.O.Sink.seen c.args.output.now) (g.L.Floor.seen c.args.floor.now) (g.D.Spool.seen c.args.spool.now) (beside (g.C.Clock.seen c.args.clock.now) (hands (g.S.Spawner.seen c.args.spawner.now) (g.N.Dialer.seen c.args.dialer.now))) c.of_words.result

pub returns-in-Err-configuration-clause-ends : goal.returns-in-Err-configuration-clause-ends
returns-in-Err-configuration-clause-ends g c =
    ends_at_file c.args.arguments.now (g.F.Files.seen c.args.files.now) (g.F.Files.seen c.configuration.new.files) (g.I.Source.seen c.args.input.now) (g.O.Sink.seen c.args.output.now) (g.L.Floor.seen c.args.floor.now) (g.D.Spool.seen c.args.spool.now) (beside (g.C.Clock.seen c.args.clock.now) (hands (g.S.Spawner.seen c.args.spawner.now) (g.N.Dialer.seen c.args.dialer.now)))
    c.in-Ok.mode c.in-Err-configuration.fault c.of_config.result c.of_config.ensures c.in-Ok.ensures c.in-Err-configuration.ensures.begins

pub returns-in-Err-configuration-clause-stays : goal.returns-in-Err-configuration-clause-stays
returns-in-Err-configuration-clause-stays g c =
    stays_at_file (g.F.Files.seen c.args.files.now) (g.F.Files.seen c.configuration.new.files) (g.I.Source.seen c.args.input.now) (g.O.Sink.seen c.args.output.now) (g.L.Floor.seen c.args.floor.now) (g.D.Spool.seen c.args.spool.now) (beside (g.C.Clock.seen c.args.clock.now) (hands (g.S.Spawner.seen c.args.spawner.now) (g.N.Dialer.seen c.args.dialer.now)))
    c.of_config.result c.in-Err-configuration.ensures.map
    (counts FilesFault c.of_config.result (of_config c.in-Err-configuration.fault) (g.F.Files.seen c.args.files.now).faults (g.F.Files.seen c.configuration.new.files).faults c.of_config.ensures c.in-Err-configuration.ensures.later c.in-Err-configuration.ensures.rises)

pub returns-clause-ends : goal.returns-clause-ends
returns-clause-ends g c =
    ends_at_work c.args.arguments.now (g.F.Files.seen c.args.files.now) (g.F.Files.seen c.configuration.new.files) (g.F.Files.seen c.work.new.files) (g.I.Source.seen c.args.input.now) (g.I.Source.seen c.work.new.input) (g.O.Sink.seen c.args.output.now) (g.O.Sink.seen c.work.new.output) (g.L.Floor.seen c.args.floor.now) (g.L.Floor.seen c.work.new.floor) (g.D.Spool.seen c.args.spool.now) (g.D.Spool.seen c.work.new.spool) (beside (g.C.Clock.seen c.args.clock.now) (hands (g.S.Spawner.seen c.args.spawner.now) (g.N.Dialer.seen c.args.dialer.now))) (beside (g.C.Clock.seen c.work.new.clock) (hands (g.S.Spawner.seen c.work.new.spawner) (g.N.Dialer.seen c.work.new.dialer)))
    c.in-Ok.mode c.in-Ok-configuration.config c.work.result c.in-Ok.ensures c.in-Ok-configuration.ensures.begins c.in-Ok-configuration.ensures.map c.in-Ok-configuration.ensures.kept c.work.ensures.works

pub returns-clause-stays : goal.returns-clause-stays
returns-clause-stays g c =
    stays_at_work (g.F.Files.seen c.args.files.now) (g.F.Files.seen c.configuration.new.files) (g.F.Files.seen c.work.new.files) (g.I.Source.seen c.args.input.now) (g.I.Source.seen c.work.new.input) (g.O.Sink.seen c.args.output.now) (g.O.Sink.seen c.work.new.output) (g.L.Floor.seen c.args.floor.now) (g.L.Floor.seen c.work.new.floor) (g.D.Spool.seen c.args.spool.now) (g.D.Spool.seen c.work.new.spool) (beside (g.C.Clock.seen c.args.clock.now) (hands (g.S.Spawner.seen c.args.spawner.now) (g.N.Dialer.seen c.args.dialer.now))) (beside (g.C.Clock.seen c.work.new.clock) (hands (g.S.Spawner.seen c.work.new.spawner) (g.N.Dialer.seen c.work.new.dialer)))
    c.work.result c.in-Ok-configuration.ensures.map c.in-Ok-configuration.ensures.kept c.work.ensures.stays

-- words that are taken are in their form
pub work-requires : goal.work-requires
work-requires g c = record { said = well_said c.args.arguments.now c.in-Ok.mode c.in-Ok.ensures; readings = c.requires.clock }
