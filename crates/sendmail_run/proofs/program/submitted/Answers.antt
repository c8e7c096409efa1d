-- A mode that takes a message of a program ends at its maps, at its aliases, or with its work.
use Rattle.mail_core.specs.Seen.{beside}
use Rattle.sendmail_run.proofs.ProgramLemmas.{stays_at_aliases, stays_at_maps, stays_submitted, submits_at_aliases, submits_at_maps, submits_so}
use Rattle.sendmail_run.proofs.program.submitted.Goals as goal

pub returns-in-Err-clause-works : goal.returns-in-Err-clause-works
returns-in-Err-clause-works g c = λ output floor hands.
    submits_at_maps c.args.words.now (g.F.Files.seen c.args.files.now) (g.F.Files.seen c.load_maps.new.files) (g.I.Source.seen c.args.input.now) output floor (g.D.Spool.seen c.args.spool.now) (beside (g.C.Clock.seen c.args.clock.now) hands) c.args.config.now c.in-Err.fault c.of_maps.result c.of_maps.ensures c.in-Err.ensures.told c.in-Err.ensures.asks

pub returns-in-Err-clause-stays : goal.returns-in-Err-clause-stays
returns-in-Err-clause-stays g c = λ output floor hands.
    stays_at_maps (g.F.Files.seen c.args.files.now) (g.F.Files.seen c.load_maps.new.files) (g.I.Source.seen c.args.input.now) output floor (g.D.Spool.seen c.args.spool.now) (beside (g.C.Clock.seen c.args.clock.now) hands) c.in-Err.fault c.of_maps.result c.of_maps.ensures c.in-Err.ensures.asks

pub returns-in-Err-load_names-clause-works : goal.returns-in-Err-load_names-clause-works
returns-in-Err-load_names-clause-works g c = λ output floor hands.
    submits_at_aliases c.args.words.now (g.F.Files.seen c.args.files.now) (g.F.Files.seen c.load_maps.new.files) (g.F.Files.seen c.load_names.new.files) (g.I.Source.seen c.args.input.now) output floor (g.D.Spool.seen c.args.spool.now) (beside (g.C.Clock.seen c.args.clock.now) hands) c.args.config.now c.in-Ok.maps c.in-Err-load_names.fault c.of_aliases.result c.of_aliases.ensures
    c.in-Ok.ensures.told c.in-Ok.ensures.asks c.in-Err-load_names.ensures.told c.in-Err-load_names.ensures.asks

pub returns-in-Err-load_names-clause-stays : goal.returns-in-Err-load_names-clause-stays
returns-in-Err-load_names-clause-stays g c = λ output floor hands.
    stays_at_aliases (g.F.Files.seen c.args.files.now) (g.F.Files.seen c.load_maps.new.files) (g.F.Files.seen c.load_names.new.files) (g.I.Source.seen c.args.input.now) output floor (g.D.Spool.seen c.args.spool.now) (beside (g.C.Clock.seen c.args.clock.now) hands) c.in-Err-load_names.fault c.of_aliases.result c.of_aliases.ensures c.in-Ok.ensures.asks c.in-Err-load_names.ensures.asks

pub returns-clause-works : goal.returns-clause-works
returns-clause-works g c = λ output floor hands.
    submits_so c.args.words.now (g.F.Files.seen c.args.files.now) (g.F.Files.seen c.load_maps.new.files) (g.F.Files.seen c.load_names.new.files) (g.F.Files.seen c.submit_mode.new.files) (g.I.Source.seen c.args.input.now) (g.I.Source.seen c.submit_mode.new.input) output floor hands (g.D.Spool.seen c.args.spool.now) (g.D.Spool.seen c.submit_mode.new.spool) (g.C.Clock.seen c.args.clock.now) (g.C.Clock.seen c.submit_mode.new.clock)
    c.args.config.now c.in-Ok.maps c.in-Ok-load_names.names c.submit_mode.result c.of_submitting.result c.of_submitting.ensures c.in-Ok.ensures.told c.in-Ok.ensures.asks c.in-Ok-load_names.ensures.told c.in-Ok-load_names.ensures.asks (c.submit_mode.ensures.ends output floor hands)

pub returns-clause-stays : goal.returns-clause-stays
returns-clause-stays g c = λ output floor hands.
    stays_submitted (g.F.Files.seen c.args.files.now) (g.F.Files.seen c.load_maps.new.files) (g.F.Files.seen c.load_names.new.files) (g.F.Files.seen c.submit_mode.new.files) (g.I.Source.seen c.args.input.now) (g.I.Source.seen c.submit_mode.new.input) output floor hands (g.D.Spool.seen c.args.spool.now) (g.D.Spool.seen c.submit_mode.new.spool) (g.C.Clock.seen c.args.clock.now) (g.C.Clock.seen c.submit_mode.new.clock)
    c.submit_mode.result c.of_submitting.result c.of_submitting.ensures c.in-Ok.ensures.asks c.in-Ok-load_names.ensures.asks c.submit_mode.ensures.asks c.submit_mode.ensures.later_input c.submit_mode.ensures.rises_input c.submit_mode.ensures.later_spool c.submit_mode.ensures.rises_spool
