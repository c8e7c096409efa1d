-- Each mode ends with its work.
use Rattle.command_line.specs.declared.mode.Job.TheVariants.{Test, Session, Daemon, Run, List as Listing, Submit}
use Rattle.sendmail_run.specs.declared.outcome.Outcome.TheVariants.{ReadFault, SpoolFault, WriteFault}
use Rattle.std.proofs.Common.{subst}
use Rattle.mail_core.specs.Seen.{beside, hands}
use Rattle.sendmail_run.specs.Devices.{world}
use Rattle.sendmail_run.specs.Outcomes.{of_list, of_test}
use Rattle.sendmail_run.specs.inner.Submitted.{IsWellSaid}
use Rattle.sendmail_run.proofs.ProgramLemmas.{as_said, counts, stays_at_maps, stays_listed, stays_tested, works_listed, works_tested, works_untested}
use Rattle.sendmail_run.proofs.program.work.Goals as goal

pub returns-in-Err-clause-works : goal.returns-in-Err-clause-works
returns-in-Err-clause-works g c =
    as_said c.args.job Test c.args.config.now (world (g.F.Files.seen c.args.files.now) (g.I.Source.seen c.args.input.now) (g.O.Sink.seen c.args.output.now) (g.L.Floor.seen c.args.floor.now) (g.D.Spool.seen c.args.spool.now) (beside (g.C.Clock.seen c.args.clock.now) (hands (g.S.Spawner.seen c.args.spawner.now) (g.N.Dialer.seen c.args.dialer.now)))) (world (g.F.Files.seen c.load_maps.new.files) (g.I.Source.seen c.args.input.now) (g.O.Sink.seen c.args.output.now) (g.L.Floor.seen c.args.floor.now) (g.D.Spool.seen c.args.spool.now) (beside (g.C.Clock.seen c.args.clock.now) (hands (g.S.Spawner.seen c.args.spawner.now) (g.N.Dialer.seen c.args.dialer.now)))) c.of_maps.result c.in-Test.is (works_untested (g.F.Files.seen c.args.files.now) (g.F.Files.seen c.load_maps.new.files) (g.I.Source.seen c.args.input.now) (g.O.Sink.seen c.args.output.now) (g.L.Floor.seen c.args.floor.now) (g.D.Spool.seen c.args.spool.now) (beside (g.C.Clock.seen c.args.clock.now) (hands (g.S.Spawner.seen c.args.spawner.now) (g.N.Dialer.seen c.args.dialer.now)))
    c.args.config.now c.in-Err.fault c.of_maps.result c.of_maps.ensures c.in-Err.ensures.told c.in-Err.ensures.asks)

pub returns-in-Err-clause-stays : goal.returns-in-Err-clause-stays
returns-in-Err-clause-stays g c =
    stays_at_maps (g.F.Files.seen c.args.files.now) (g.F.Files.seen c.load_maps.new.files) (g.I.Source.seen c.args.input.now) (g.O.Sink.seen c.args.output.now) (g.L.Floor.seen c.args.floor.now) (g.D.Spool.seen c.args.spool.now) (beside (g.C.Clock.seen c.args.clock.now) (hands (g.S.Spawner.seen c.args.spawner.now) (g.N.Dialer.seen c.args.dialer.now)))
    c.in-Err.fault c.of_maps.result c.of_maps.ensures c.in-Err.ensures.asks

pub returns-in-Ok-clause-works : goal.returns-in-Ok-clause-works
returns-in-Ok-clause-works g c =
    as_said c.args.job Test c.args.config.now (world (g.F.Files.seen c.args.files.now) (g.I.Source.seen c.args.input.now) (g.O.Sink.seen c.args.output.now) (g.L.Floor.seen c.args.floor.now) (g.D.Spool.seen c.args.spool.now) (beside (g.C.Clock.seen c.args.clock.now) (hands (g.S.Spawner.seen c.args.spawner.now) (g.N.Dialer.seen c.args.dialer.now)))) (world (g.F.Files.seen c.load_maps.new.files) (g.I.Source.seen c.address_test.new.input) (g.O.Sink.seen c.address_test.new.output) (g.L.Floor.seen c.args.floor.now) (g.D.Spool.seen c.args.spool.now) (beside (g.C.Clock.seen c.args.clock.now) (hands (g.S.Spawner.seen c.args.spawner.now) (g.N.Dialer.seen c.args.dialer.now)))) c.of_test.result c.in-Test.is (works_tested (g.F.Files.seen c.args.files.now) (g.F.Files.seen c.load_maps.new.files) (g.I.Source.seen c.args.input.now) (g.I.Source.seen c.address_test.new.input) (g.O.Sink.seen c.args.output.now) (g.O.Sink.seen c.address_test.new.output) (g.L.Floor.seen c.args.floor.now) (g.D.Spool.seen c.args.spool.now) (beside (g.C.Clock.seen c.args.clock.now) (hands (g.S.Spawner.seen c.args.spawner.now) (g.N.Dialer.seen c.args.dialer.now)))
    c.args.config.now c.in-Ok.maps c.address_test.result c.of_test.result c.of_test.ensures c.in-Ok.ensures.told c.address_test.ensures.tests)

pub returns-in-Ok-clause-stays : goal.returns-in-Ok-clause-stays
returns-in-Ok-clause-stays g c =
    stays_tested (g.F.Files.seen c.args.files.now) (g.F.Files.seen c.load_maps.new.files) (g.I.Source.seen c.args.input.now) (g.I.Source.seen c.address_test.new.input) (g.O.Sink.seen c.args.output.now) (g.O.Sink.seen c.address_test.new.output) (g.L.Floor.seen c.args.floor.now) (g.D.Spool.seen c.args.spool.now) (beside (g.C.Clock.seen c.args.clock.now) (hands (g.S.Spawner.seen c.args.spawner.now) (g.N.Dialer.seen c.args.dialer.now))) c.of_test.result c.in-Ok.ensures.asks
    (counts ReadFault c.of_test.result (of_test c.address_test.result) (g.I.Source.seen c.args.input.now).faults (g.I.Source.seen c.address_test.new.input).faults c.of_test.ensures c.address_test.ensures.input c.address_test.ensures.read)
    (counts WriteFault c.of_test.result (of_test c.address_test.result) (g.O.Sink.seen c.args.output.now).faults (g.O.Sink.seen c.address_test.new.output).faults c.of_test.ensures c.address_test.ensures.output c.address_test.ensures.written)

pub returns-in-Session-clause-works : goal.returns-in-Session-clause-works
returns-in-Session-clause-works g c =
    as_said c.args.job Session c.args.config.now (world (g.F.Files.seen c.args.files.now) (g.I.Source.seen c.args.input.now) (g.O.Sink.seen c.args.output.now) (g.L.Floor.seen c.args.floor.now) (g.D.Spool.seen c.args.spool.now) (beside (g.C.Clock.seen c.args.clock.now) (hands (g.S.Spawner.seen c.args.spawner.now) (g.N.Dialer.seen c.args.dialer.now)))) (world (g.F.Files.seen c.served.new.files) (g.I.Source.seen c.args.input.now) (g.O.Sink.seen c.args.output.now) (g.L.Floor.seen c.served.new.floor) (g.D.Spool.seen c.served.new.spool) (beside (g.C.Clock.seen c.served.new.clock) (hands (g.S.Spawner.seen c.served.new.spawner) (g.N.Dialer.seen c.served.new.dialer)))) c.served.result c.in-Session.is (c.served.ensures.works (g.I.Source.seen c.args.input.now) (g.O.Sink.seen c.args.output.now))

pub returns-in-Session-clause-stays : goal.returns-in-Session-clause-stays
returns-in-Session-clause-stays g c = c.served.ensures.stays (g.I.Source.seen c.args.input.now) (g.O.Sink.seen c.args.output.now)

pub returns-in-Daemon-clause-works : goal.returns-in-Daemon-clause-works
returns-in-Daemon-clause-works g c =
    as_said c.args.job (Daemon c.in-Daemon.wait) c.args.config.now (world (g.F.Files.seen c.args.files.now) (g.I.Source.seen c.args.input.now) (g.O.Sink.seen c.args.output.now) (g.L.Floor.seen c.args.floor.now) (g.D.Spool.seen c.args.spool.now) (beside (g.C.Clock.seen c.args.clock.now) (hands (g.S.Spawner.seen c.args.spawner.now) (g.N.Dialer.seen c.args.dialer.now)))) (world (g.F.Files.seen c.served-in-Daemon.new.files) (g.I.Source.seen c.args.input.now) (g.O.Sink.seen c.args.output.now) (g.L.Floor.seen c.served-in-Daemon.new.floor) (g.D.Spool.seen c.served-in-Daemon.new.spool) (beside (g.C.Clock.seen c.served-in-Daemon.new.clock) (hands (g.S.Spawner.seen c.served-in-Daemon.new.spawner) (g.N.Dialer.seen c.served-in-Daemon.new.dialer)))) c.served-in-Daemon.result c.in-Daemon.is (c.served-in-Daemon.ensures.works (g.I.Source.seen c.args.input.now) (g.O.Sink.seen c.args.output.now))

pub returns-in-Daemon-clause-stays : goal.returns-in-Daemon-clause-stays
returns-in-Daemon-clause-stays g c = c.served-in-Daemon.ensures.stays (g.I.Source.seen c.args.input.now) (g.O.Sink.seen c.args.output.now)

pub returns-in-Run-clause-works : goal.returns-in-Run-clause-works
returns-in-Run-clause-works g c =
    as_said c.args.job (Run c.in-Run.group) c.args.config.now (world (g.F.Files.seen c.args.files.now) (g.I.Source.seen c.args.input.now) (g.O.Sink.seen c.args.output.now) (g.L.Floor.seen c.args.floor.now) (g.D.Spool.seen c.args.spool.now) (beside (g.C.Clock.seen c.args.clock.now) (hands (g.S.Spawner.seen c.args.spawner.now) (g.N.Dialer.seen c.args.dialer.now)))) (world (g.F.Files.seen c.served-in-Run.new.files) (g.I.Source.seen c.args.input.now) (g.O.Sink.seen c.args.output.now) (g.L.Floor.seen c.served-in-Run.new.floor) (g.D.Spool.seen c.served-in-Run.new.spool) (beside (g.C.Clock.seen c.served-in-Run.new.clock) (hands (g.S.Spawner.seen c.served-in-Run.new.spawner) (g.N.Dialer.seen c.served-in-Run.new.dialer)))) c.served-in-Run.result c.in-Run.is (c.served-in-Run.ensures.works (g.I.Source.seen c.args.input.now) (g.O.Sink.seen c.args.output.now))

pub returns-in-Run-clause-stays : goal.returns-in-Run-clause-stays
returns-in-Run-clause-stays g c = c.served-in-Run.ensures.stays (g.I.Source.seen c.args.input.now) (g.O.Sink.seen c.args.output.now)

pub returns-in-List-clause-works : goal.returns-in-List-clause-works
returns-in-List-clause-works g c =
    as_said c.args.job Listing c.args.config.now (world (g.F.Files.seen c.args.files.now) (g.I.Source.seen c.args.input.now) (g.O.Sink.seen c.args.output.now) (g.L.Floor.seen c.args.floor.now) (g.D.Spool.seen c.args.spool.now) (beside (g.C.Clock.seen c.args.clock.now) (hands (g.S.Spawner.seen c.args.spawner.now) (g.N.Dialer.seen c.args.dialer.now)))) (world (g.F.Files.seen c.args.files.now) (g.I.Source.seen c.args.input.now) (g.O.Sink.seen c.list_mode.new.output) (g.L.Floor.seen c.args.floor.now) (g.D.Spool.seen c.list_mode.new.spool) (beside (g.C.Clock.seen c.args.clock.now) (hands (g.S.Spawner.seen c.args.spawner.now) (g.N.Dialer.seen c.args.dialer.now)))) c.of_list.result c.in-List.is (works_listed (g.F.Files.seen c.args.files.now) (g.I.Source.seen c.args.input.now) (g.O.Sink.seen c.args.output.now) (g.O.Sink.seen c.list_mode.new.output) (g.L.Floor.seen c.args.floor.now) (g.D.Spool.seen c.args.spool.now) (g.D.Spool.seen c.list_mode.new.spool) (beside (g.C.Clock.seen c.args.clock.now) (hands (g.S.Spawner.seen c.args.spawner.now) (g.N.Dialer.seen c.args.dialer.now))) c.args.config.now c.list_mode.result c.of_list.result c.of_list.ensures c.list_mode.ensures.lists)

pub returns-in-List-clause-stays : goal.returns-in-List-clause-stays
returns-in-List-clause-stays g c =
    stays_listed (g.F.Files.seen c.args.files.now) (g.I.Source.seen c.args.input.now) (g.O.Sink.seen c.args.output.now) (g.O.Sink.seen c.list_mode.new.output) (g.L.Floor.seen c.args.floor.now) (g.D.Spool.seen c.args.spool.now) (g.D.Spool.seen c.list_mode.new.spool) (beside (g.C.Clock.seen c.args.clock.now) (hands (g.S.Spawner.seen c.args.spawner.now) (g.N.Dialer.seen c.args.dialer.now))) c.of_list.result
    (counts WriteFault c.of_list.result (of_list c.list_mode.result) (g.O.Sink.seen c.args.output.now).faults (g.O.Sink.seen c.list_mode.new.output).faults c.of_list.ensures c.list_mode.ensures.output c.list_mode.ensures.written)
    (counts SpoolFault c.of_list.result (of_list c.list_mode.result) (g.D.Spool.seen c.args.spool.now).faults (g.D.Spool.seen c.list_mode.new.spool).faults c.of_list.ensures c.list_mode.ensures.spool c.list_mode.ensures.opened)

pub submitted-requires : goal.submitted-requires
submitted-requires g c = record { words = subst IsWellSaid c.in-Submit.is c.requires.said; readings = c.requires.readings }

pub returns-in-Submit-clause-works : goal.returns-in-Submit-clause-works
returns-in-Submit-clause-works g c =
    as_said c.args.job (Submit c.in-Submit.words) c.args.config.now (world (g.F.Files.seen c.args.files.now) (g.I.Source.seen c.args.input.now) (g.O.Sink.seen c.args.output.now) (g.L.Floor.seen c.args.floor.now) (g.D.Spool.seen c.args.spool.now) (beside (g.C.Clock.seen c.args.clock.now) (hands (g.S.Spawner.seen c.args.spawner.now) (g.N.Dialer.seen c.args.dialer.now)))) (world (g.F.Files.seen c.submitted.new.files) (g.I.Source.seen c.submitted.new.input) (g.O.Sink.seen c.args.output.now) (g.L.Floor.seen c.args.floor.now) (g.D.Spool.seen c.submitted.new.spool) (beside (g.C.Clock.seen c.submitted.new.clock) (hands (g.S.Spawner.seen c.args.spawner.now) (g.N.Dialer.seen c.args.dialer.now)))) c.submitted.result c.in-Submit.is (c.submitted.ensures.works (g.O.Sink.seen c.args.output.now) (g.L.Floor.seen c.args.floor.now) (hands (g.S.Spawner.seen c.args.spawner.now) (g.N.Dialer.seen c.args.dialer.now)))

pub returns-in-Submit-clause-stays : goal.returns-in-Submit-clause-stays
returns-in-Submit-clause-stays g c = c.submitted.ensures.stays (g.O.Sink.seen c.args.output.now) (g.L.Floor.seen c.args.floor.now) (hands (g.S.Spawner.seen c.args.spawner.now) (g.N.Dialer.seen c.args.dialer.now))
