-- The exits of a warning.
use Rattle.std.proofs.Common.{◌≡◌, Ok, Err, Contains, ap, sym, subst, refl, rules}
use Rattle.spool_store.specs.Keepers.{seen}
use Rattle.queue_run.specs.Backs.{IsDrawnIn, drawer}
use Rattle.queue_run.specs.declared.runner.RunStop.TheVariants.{NoMemory}
use Rattle.queue_run.specs.Kinds.{Warns}
use Rattle.queue_run.specs.Meant.{ground_by}
use Rattle.queue_run.specs.Working.{Steps, bench}
use Rattle.queue_run.proofs.AskingLemmas.{asked_warning}
use Rattle.queue_run.proofs.BackLemmas.{valid_one, cuts_are}
use Rattle.queue_run.proofs.ReturnLemmas.{control_is, drawn_sent, drawn_unmade, exit_unwarned, exit_warned}
use Rattle.queue_run.proofs.SettleLemmas.{exit_memory}
use Rattle.queue_run.proofs.StepLemmas.{reads_itself}
use Rattle.queue_run.proofs.runner.Runner.warn.Goals as goal

pub returns-in_err-warning-clause-steps : goal.returns-in_err-warning-clause-steps
returns-in_err-warning-clause-steps g c = λ entries spawner dialer whole holds kind.
    let s = g.D.Spool.seen c.args.spool.now in
    let m = g.D.Spool.seen c.args.spool.now in
    let d = drawer (g.W.Draws.seen c.args.draws.now) (g.W.Draws.answers c.args.draws.now) in
    let G = ground_by c.args.config.now c.args.maps.now c.args.moment d in
    let d' = drawer (g.W.Draws.seen c.warning_of.new.draws) (g.W.Draws.answers c.warning_of.new.draws) in
    let e : c.from_residual.result ≡ Err c.in_err-warning.field-0.0 = search rules in
    subst (λ q. Steps G entries c.args.table.now c.args.table.now c.args.self.now c.args.self.now (bench s spawner dialer) (bench m spawner dialer) q) (sym e)
    (exit_unwarned G entries c.args.table.now c.args.table.now c.args.self.now s m m spawner dialer d.answerer.faults d'.answerer.faults c.in_err-warning.field-0.0 kind (reads_itself s) refl c.in_err-warning.ensures.fault)

pub returns-in_err-warning-clause-drawn : goal.returns-in_err-warning-clause-drawn
returns-in_err-warning-clause-drawn g c =
    let s = g.D.Spool.seen c.args.spool.now in
    let m = g.D.Spool.seen c.args.spool.now in
    let d = drawer (g.W.Draws.seen c.args.draws.now) (g.W.Draws.answers c.args.draws.now) in
    let G = ground_by c.args.config.now c.args.maps.now c.args.moment d in
    let d' = drawer (g.W.Draws.seen c.warning_of.new.draws) (g.W.Draws.answers c.warning_of.new.draws) in
    let e : c.from_residual.result ≡ Err c.in_err-warning.field-0.0 = search rules in
    subst (λ q. IsDrawnIn d d' q) (sym e) (drawn_unmade d d' c.in_err-warning.field-0.0 c.warning_of.ensures.steady c.in_err-warning.ensures.fault)

pub returns-in_err-warnings-clause-steps : goal.returns-in_err-warnings-clause-steps
returns-in_err-warnings-clause-steps g c = λ entries spawner dialer whole holds kind.
    let s = g.D.Spool.seen c.args.spool.now in
    let m = g.D.Spool.seen c.args.spool.now in
    let d = drawer (g.W.Draws.seen c.args.draws.now) (g.W.Draws.answers c.args.draws.now) in
    let G = ground_by c.args.config.now c.args.maps.now c.args.moment d in
    let e : c.from_residual-in_err-warnings.result ≡ Err NoMemory = search rules in
    subst (λ q. Steps G entries c.args.table.now c.args.table.now c.args.self.now c.args.self.now (bench s spawner dialer) (bench m spawner dialer) q) (sym e)
    (exit_memory G entries c.args.table.now c.args.table.now c.args.self.now c.args.self.now s m spawner dialer Warns kind refl (reads_itself s) refl)

pub returns-in_err-warnings-clause-drawn : goal.returns-in_err-warnings-clause-drawn
returns-in_err-warnings-clause-drawn g c =
    let s = g.D.Spool.seen c.args.spool.now in
    let m = g.D.Spool.seen c.args.spool.now in
    let d = drawer (g.W.Draws.seen c.args.draws.now) (g.W.Draws.answers c.args.draws.now) in
    let G = ground_by c.args.config.now c.args.maps.now c.args.moment d in
    let d' = drawer (g.W.Draws.seen c.warning_of.new.draws) (g.W.Draws.answers c.warning_of.new.draws) in
    let e : c.from_residual-in_err-warnings.result ≡ Err NoMemory = search rules in
    subst (λ q. IsDrawnIn d d' q) (sym e) (record { steady = c.warning_of.ensures.steady; cause = c.in_ok-warning.ensures.fault })

pub warn-requires-clause-asked : goal.warn-requires-clause-asked
warn-requires-clause-asked g c = asked_warning c.args.table.now c.args.self.now c.in_ok-warnings.warnings c.in_ok-warning.warning c.args.moment c.requires.ready c.requires.queued c.in_ok-warnings.ensures (cuts_are c.in_ok-warning.warning.cuts c.in_ok-warning.ensures.made.forms)

pub warn-requires-clause-valid : goal.warn-requires-clause-valid
warn-requires-clause-valid g c = valid_one c.args.table.now.terms c.args.moment c.in_ok-warnings.warnings c.in_ok-warning.warning c.ranges.moment.fits c.in_ok-warnings.ensures c.in_ok-warning.ensures.made.plain c.in_ok-warning.ensures.made.forms

pub returns-in-Ok-clause-steps : goal.returns-in-Ok-clause-steps
returns-in-Ok-clause-steps g c = λ entries spawner dialer whole holds kind.
    let s = g.D.Spool.seen c.args.spool.now in
    let m = g.D.Spool.seen c.args.spool.now in
    let d = drawer (g.W.Draws.seen c.args.draws.now) (g.W.Draws.answers c.args.draws.now) in
    let G = ground_by c.args.config.now c.args.maps.now c.args.moment d in
    let s' = g.D.Spool.seen c.warn.new.spool in
    let at = control_is c.args.table.now entries c.args.self.now c.entry.result.now holds c.requires.ready (λ h among is. c.entry.ensures.is h (subst (λ q. Contains (seen q).entries h) (sym c.queue.ensures) among) is) in
    exit_warned G entries c.args.table.now c.warn.new.self c.args.self.now s m s' spawner dialer (Ok c.in-Ok.field-0) c.entry.result.now.control c.in_ok-warnings.warnings c.in_ok-warning.warning kind
    c.requires.ready c.requires.rest c.requires.running holds whole at c.in_ok-warning.ensures.made c.in_ok-warnings.ensures
    (reads_itself s) refl c.in-Ok.ensures.does (λ e. let r = c.in-Ok.ensures.refused e in (r.0, ap g.D.Spool.seen r.1)) c.in-Ok.ensures.spent

pub returns-in-Ok-clause-drawn : goal.returns-in-Ok-clause-drawn
returns-in-Ok-clause-drawn g c =
    drawn_sent (drawer (g.W.Draws.seen c.args.draws.now) (g.W.Draws.answers c.args.draws.now)) (drawer (g.W.Draws.seen c.warning_of.new.draws) (g.W.Draws.answers c.warning_of.new.draws)) (Ok c.in-Ok.field-0) c.warning_of.ensures.steady c.in_ok-warning.ensures.fault

pub returns-in-Err-clause-steps : goal.returns-in-Err-clause-steps
returns-in-Err-clause-steps g c = λ entries spawner dialer whole holds kind.
    let s = g.D.Spool.seen c.args.spool.now in
    let m = g.D.Spool.seen c.args.spool.now in
    let d = drawer (g.W.Draws.seen c.args.draws.now) (g.W.Draws.answers c.args.draws.now) in
    let G = ground_by c.args.config.now c.args.maps.now c.args.moment d in
    let s' = g.D.Spool.seen c.warn.new.spool in
    let at = control_is c.args.table.now entries c.args.self.now c.entry.result.now holds c.requires.ready (λ h among is. c.entry.ensures.is h (subst (λ q. Contains (seen q).entries h) (sym c.queue.ensures) among) is) in
    subst (λ q. Steps G entries c.args.table.now c.warn.new.self c.args.self.now c.args.self.now (bench s spawner dialer) (bench s' spawner dialer) (Err q)) (sym c.stop_of.ensures)
    (exit_warned G entries c.args.table.now c.warn.new.self c.args.self.now s m s' spawner dialer (Err c.in-Err.fault) c.entry.result.now.control c.in_ok-warnings.warnings c.in_ok-warning.warning kind
    c.requires.ready c.requires.rest c.requires.running holds whole at c.in_ok-warning.ensures.made c.in_ok-warnings.ensures
    (reads_itself s) refl c.in-Err.ensures.does (λ e. let r = c.in-Err.ensures.refused e in (r.0, ap g.D.Spool.seen r.1)) c.in-Err.ensures.spent)

pub returns-in-Err-clause-drawn : goal.returns-in-Err-clause-drawn
returns-in-Err-clause-drawn g c =
    subst (λ q. IsDrawnIn (drawer (g.W.Draws.seen c.args.draws.now) (g.W.Draws.answers c.args.draws.now)) (drawer (g.W.Draws.seen c.warning_of.new.draws) (g.W.Draws.answers c.warning_of.new.draws)) (Err q)) (sym c.stop_of.ensures)
    (drawn_sent (drawer (g.W.Draws.seen c.args.draws.now) (g.W.Draws.answers c.args.draws.now)) (drawer (g.W.Draws.seen c.warning_of.new.draws) (g.W.Draws.answers c.warning_of.new.draws)) (Err c.in-Err.fault) c.warning_of.ensures.steady c.in_ok-warning.ensures.fault)
