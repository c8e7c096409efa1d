use Rattle.mail_core.specs.Seen.{beside, hands}
use Rattle.sendmail_run.specs.Serving.{grounds_of, judge_by, site_of}
use Rattle.sendmail_run.specs.Tasks.{plan_of}
use Rattle.sendmail_run.proofs.ProgramLemmas.{stays_at_aliases, stays_at_maps, stays_served, works_at_aliases, works_at_maps, works_served}
use Rattle.sendmail_run.proofs.program.served.Goals as goal

pub returns-in-Err-clause-works : goal.returns-in-Err-clause-works
returns-in-Err-clause-works g c = λ input output.
    works_at_maps c.args.task.now (g.F.Files.seen c.args.files.now) (g.F.Files.seen c.load_maps.new.files) input output (g.L.Floor.seen c.args.floor.now) (g.D.Spool.seen c.args.spool.now) (beside (g.C.Clock.seen c.args.clock.now) (hands (g.S.Spawner.seen c.args.spawner.now) (g.N.Dialer.seen c.args.dialer.now)))
    c.args.config.now c.in-Err.fault c.of_maps.result c.of_maps.ensures c.in-Err.ensures.told c.in-Err.ensures.asks

pub returns-in-Err-clause-stays : goal.returns-in-Err-clause-stays
returns-in-Err-clause-stays g c = λ input output.
    stays_at_maps (g.F.Files.seen c.args.files.now) (g.F.Files.seen c.load_maps.new.files) input output (g.L.Floor.seen c.args.floor.now) (g.D.Spool.seen c.args.spool.now) (beside (g.C.Clock.seen c.args.clock.now) (hands (g.S.Spawner.seen c.args.spawner.now) (g.N.Dialer.seen c.args.dialer.now)))
    c.in-Err.fault c.of_maps.result c.of_maps.ensures c.in-Err.ensures.asks

pub returns-in-Err-load_names-clause-works : goal.returns-in-Err-load_names-clause-works
returns-in-Err-load_names-clause-works g c = λ input output.
    works_at_aliases c.args.task.now (g.F.Files.seen c.args.files.now) (g.F.Files.seen c.load_maps.new.files) (g.F.Files.seen c.load_names.new.files) input output (g.L.Floor.seen c.args.floor.now) (g.D.Spool.seen c.args.spool.now) (beside (g.C.Clock.seen c.args.clock.now) (hands (g.S.Spawner.seen c.args.spawner.now) (g.N.Dialer.seen c.args.dialer.now)))
    c.args.config.now c.in-Ok.maps c.in-Err-load_names.fault c.of_aliases.result c.of_aliases.ensures c.in-Ok.ensures.told c.in-Ok.ensures.asks c.in-Err-load_names.ensures.told c.in-Err-load_names.ensures.asks

pub returns-in-Err-load_names-clause-stays : goal.returns-in-Err-load_names-clause-stays
returns-in-Err-load_names-clause-stays g c = λ input output.
    stays_at_aliases (g.F.Files.seen c.args.files.now) (g.F.Files.seen c.load_maps.new.files) (g.F.Files.seen c.load_names.new.files) input output (g.L.Floor.seen c.args.floor.now) (g.D.Spool.seen c.args.spool.now) (beside (g.C.Clock.seen c.args.clock.now) (hands (g.S.Spawner.seen c.args.spawner.now) (g.N.Dialer.seen c.args.dialer.now)))
    c.in-Err-load_names.fault c.of_aliases.result c.of_aliases.ensures c.in-Ok.ensures.asks c.in-Err-load_names.ensures.asks

pub returns-clause-works : goal.returns-clause-works
returns-clause-works g c = λ input output.
    works_served c.args.task.now (g.F.Files.seen c.args.files.now) (g.F.Files.seen c.load_maps.new.files) (g.F.Files.seen c.load_names.new.files) (g.F.Files.seen c.serving_mode.new.files) input output (g.L.Floor.seen c.args.floor.now) (g.L.Floor.seen c.serving_mode.new.floor) (g.D.Spool.seen c.args.spool.now) (g.D.Spool.seen c.serving_mode.new.spool) (beside (g.C.Clock.seen c.args.clock.now) (hands (g.S.Spawner.seen c.args.spawner.now) (g.N.Dialer.seen c.args.dialer.now))) (beside (g.C.Clock.seen c.serving_mode.new.clock) (hands (g.S.Spawner.seen c.serving_mode.new.spawner) (g.N.Dialer.seen c.serving_mode.new.dialer)))
    c.args.config.now c.in-Ok.maps c.in-Ok-load_names.names c.serving_mode.result c.of_serving.result c.of_serving.ensures c.in-Ok.ensures.told c.in-Ok.ensures.asks c.in-Ok-load_names.ensures.told c.in-Ok-load_names.ensures.asks c.serving_mode.ensures.serves

pub returns-clause-stays : goal.returns-clause-stays
returns-clause-stays g c = λ input output.
    stays_served (judge_by (grounds_of c.args.config.now c.in-Ok.maps c.in-Ok-load_names.names) (g.F.Files.seen c.load_names.new.files)) (site_of c.args.config.now c.in-Ok.maps (plan_of c.args.task.now)) c.args.task.now (g.F.Files.seen c.args.files.now) (g.F.Files.seen c.load_maps.new.files) (g.F.Files.seen c.load_names.new.files) (g.F.Files.seen c.serving_mode.new.files) input output (g.L.Floor.seen c.args.floor.now) (g.L.Floor.seen c.serving_mode.new.floor) (g.D.Spool.seen c.args.spool.now) (g.D.Spool.seen c.serving_mode.new.spool) (beside (g.C.Clock.seen c.args.clock.now) (hands (g.S.Spawner.seen c.args.spawner.now) (g.N.Dialer.seen c.args.dialer.now))) (beside (g.C.Clock.seen c.serving_mode.new.clock) (hands (g.S.Spawner.seen c.serving_mode.new.spawner) (g.N.Dialer.seen c.serving_mode.new.dialer)))
    c.serving_mode.result c.of_serving.result c.of_serving.ensures c.in-Ok.ensures.asks c.in-Ok-load_names.ensures.asks c.serving_mode.ensures.asks c.serving_mode.ensures.serves c.serving_mode.ensures.rises_floor c.serving_mode.ensures.rises_spool
