-- The exits of failed rows that are given back.
use Rattle.std.proofs.Common.{◌≡◌, Ok, Err, Contains, ap, sym, subst, refl, rules}
use Rattle.std.specs.Prelude.{IfSome, false}
use Rattle.spool_store.proofs.OpenLemmas.{reads_told}
use Rattle.spool_store.specs.Keepers.{seen}
use Rattle.spool_store.specs.Stores.{Agrees}
use Rattle.queue_table.specs.Calls.{store}
use Rattle.queue_run.specs.Backs.{IsDrawnIn, drawer}
use Rattle.queue_run.specs.declared.runner.RunStop.TheVariants.{NoMemory}
use Rattle.queue_run.specs.Kinds.{Returns}
use Rattle.queue_run.specs.Meant.{ground_by}
use Rattle.queue_run.specs.Working.{Steps, bench}
use Rattle.queue_run.proofs.AskingLemmas.{asked_return}
use Rattle.queue_run.proofs.BackLemmas.{valid_one, is_back}
use Rattle.queue_run.proofs.ReturnLemmas.{control_is, drawn_sent, drawn_unmade, drawn_unread, exit_returned, exit_unmade, exit_unread}
use Rattle.queue_run.proofs.SettleLemmas.{exit_memory}
use Rattle.queue_run.proofs.runner.Runner.give_back.Goals as goal

pub returns-in_err-body-clause-steps : goal.returns-in_err-body-clause-steps
returns-in_err-body-clause-steps g c = λ entries spawner dialer whole holds kind.
    let s = g.D.Spool.seen c.args.spool.now in
    let m = g.D.Spool.seen c.body_of.new.spool in
    let d = drawer (g.W.Draws.seen c.args.draws.now) (g.W.Draws.answers c.args.draws.now) in
    let G = ground_by c.args.config.now c.args.maps.now c.args.moment d in
    let e : c.from_residual.result ≡ Err c.in_err-body.field-0.0 = search rules in
    subst (λ q. Steps G entries c.args.table.now c.args.table.now c.args.self.now c.args.self.now (bench s spawner dialer) (bench m spawner dialer) q) (sym e)
    (exit_unread G entries c.args.table.now c.args.table.now c.args.self.now s m m spawner dialer c.in_err-body.field-0.0 kind c.body_of.ensures.reads c.body_of.ensures.later c.in_err-body.ensures.fault)

pub returns-in_err-body-clause-drawn : goal.returns-in_err-body-clause-drawn
returns-in_err-body-clause-drawn g c =
    let s = g.D.Spool.seen c.args.spool.now in
    let m = g.D.Spool.seen c.body_of.new.spool in
    let d = drawer (g.W.Draws.seen c.args.draws.now) (g.W.Draws.answers c.args.draws.now) in
    let G = ground_by c.args.config.now c.args.maps.now c.args.moment d in
    let e : c.from_residual.result ≡ Err c.in_err-body.field-0.0 = search rules in
    subst (λ q. IsDrawnIn d d q) (sym e) (drawn_unread d s.faults m.faults c.in_err-body.field-0.0 c.in_err-body.ensures.fault)

pub returns-in_err-bounce-clause-steps : goal.returns-in_err-bounce-clause-steps
returns-in_err-bounce-clause-steps g c = λ entries spawner dialer whole holds kind.
    let s = g.D.Spool.seen c.args.spool.now in
    let m = g.D.Spool.seen c.body_of.new.spool in
    let d = drawer (g.W.Draws.seen c.args.draws.now) (g.W.Draws.answers c.args.draws.now) in
    let G = ground_by c.args.config.now c.args.maps.now c.args.moment d in
    let d' = drawer (g.W.Draws.seen c.bounce_of.new.draws) (g.W.Draws.answers c.bounce_of.new.draws) in
    let e : c.from_residual-in_err-bounce.result ≡ Err c.in_err-bounce.field-0.0 = search rules in
    subst (λ q. Steps G entries c.args.table.now c.args.table.now c.args.self.now c.args.self.now (bench s spawner dialer) (bench m spawner dialer) q) (sym e)
    (exit_unmade G entries c.args.table.now c.args.table.now c.args.self.now s m m spawner dialer d.answerer.faults d'.answerer.faults c.in_err-bounce.field-0.0 kind c.body_of.ensures.reads c.in_ok-body.ensures.fault c.in_err-bounce.ensures.fault)

pub returns-in_err-bounce-clause-drawn : goal.returns-in_err-bounce-clause-drawn
returns-in_err-bounce-clause-drawn g c =
    let s = g.D.Spool.seen c.args.spool.now in
    let m = g.D.Spool.seen c.body_of.new.spool in
    let d = drawer (g.W.Draws.seen c.args.draws.now) (g.W.Draws.answers c.args.draws.now) in
    let G = ground_by c.args.config.now c.args.maps.now c.args.moment d in
    let d' = drawer (g.W.Draws.seen c.bounce_of.new.draws) (g.W.Draws.answers c.bounce_of.new.draws) in
    let e : c.from_residual-in_err-bounce.result ≡ Err c.in_err-bounce.field-0.0 = search rules in
    subst (λ q. IsDrawnIn d d' q) (sym e) (drawn_unmade d d' c.in_err-bounce.field-0.0 c.bounce_of.ensures.steady c.in_err-bounce.ensures.fault)

pub returns-in_err-bounces-clause-steps : goal.returns-in_err-bounces-clause-steps
returns-in_err-bounces-clause-steps g c = λ entries spawner dialer whole holds kind.
    let s = g.D.Spool.seen c.args.spool.now in
    let m = g.D.Spool.seen c.body_of.new.spool in
    let d = drawer (g.W.Draws.seen c.args.draws.now) (g.W.Draws.answers c.args.draws.now) in
    let G = ground_by c.args.config.now c.args.maps.now c.args.moment d in
    let e : c.from_residual-in_err-bounces.result ≡ Err NoMemory = search rules in
    subst (λ q. Steps G entries c.args.table.now c.args.table.now c.args.self.now c.args.self.now (bench s spawner dialer) (bench m spawner dialer) q) (sym e)
    (exit_memory G entries c.args.table.now c.args.table.now c.args.self.now c.args.self.now s m spawner dialer Returns kind refl c.body_of.ensures.reads c.in_ok-body.ensures.fault)

pub returns-in_err-bounces-clause-drawn : goal.returns-in_err-bounces-clause-drawn
returns-in_err-bounces-clause-drawn g c =
    let s = g.D.Spool.seen c.args.spool.now in
    let m = g.D.Spool.seen c.body_of.new.spool in
    let d = drawer (g.W.Draws.seen c.args.draws.now) (g.W.Draws.answers c.args.draws.now) in
    let G = ground_by c.args.config.now c.args.maps.now c.args.moment d in
    let d' = drawer (g.W.Draws.seen c.bounce_of.new.draws) (g.W.Draws.answers c.bounce_of.new.draws) in
    let e : c.from_residual-in_err-bounces.result ≡ Err NoMemory = search rules in
    subst (λ q. IsDrawnIn d d' q) (sym e) (record { steady = c.bounce_of.ensures.steady; cause = c.in_ok-bounce.ensures.fault })

pub give_back-requires-clause-agrees : goal.give_back-requires-clause-agrees
give_back-requires-clause-agrees g c = subst (λ q. (store c.args.table.now).broken ≡ false → IfSome q (Agrees (store c.args.table.now))) (sym (reads_told (g.D.Spool.seen c.args.spool.now) (g.D.Spool.seen c.body_of.new.spool) c.body_of.ensures.reads)) c.requires.agrees

pub give_back-requires-clause-asked : goal.give_back-requires-clause-asked
give_back-requires-clause-asked g c = asked_return c.args.table.now c.args.self.now c.in_ok-bounces.bounces c.in_ok-bounce.bounce c.args.moment c.requires.ready c.requires.failed c.requires.single c.in_ok-bounces.ensures (is_back c.in_ok-bounce.bounce c.in_ok-bounce.ensures.made.plain c.in_ok-bounce.ensures.made.forms)

pub give_back-requires-clause-valid : goal.give_back-requires-clause-valid
give_back-requires-clause-valid g c = valid_one c.args.table.now.terms c.args.moment c.in_ok-bounces.bounces c.in_ok-bounce.bounce c.ranges.moment.fits c.in_ok-bounces.ensures c.in_ok-bounce.ensures.made.plain c.in_ok-bounce.ensures.made.forms

pub returns-in-Ok-clause-steps : goal.returns-in-Ok-clause-steps
returns-in-Ok-clause-steps g c = λ entries spawner dialer whole holds kind.
    let s = g.D.Spool.seen c.args.spool.now in
    let m = g.D.Spool.seen c.body_of.new.spool in
    let d = drawer (g.W.Draws.seen c.args.draws.now) (g.W.Draws.answers c.args.draws.now) in
    let G = ground_by c.args.config.now c.args.maps.now c.args.moment d in
    let s' = g.D.Spool.seen c.give_back.new.spool in
    let at = control_is c.args.table.now entries c.args.self.now c.entry.result.now holds c.requires.ready (λ h among is. c.entry.ensures.is h (subst (λ q. Contains (seen q).entries h) (sym c.queue.ensures) among) is) in
    exit_returned G entries c.args.table.now c.give_back.new.self c.args.self.now s m s' spawner dialer (Ok c.in-Ok.field-0) c.entry.result.now.control c.in_ok-body.body c.in_ok-bounces.bounces c.in_ok-bounce.bounce kind
    c.requires.ready c.requires.rest c.requires.running holds whole at c.in_ok-bounce.ensures.made c.in_ok-bounces.ensures
    (λ files told stands. c.in_ok-body.ensures.body files entries told stands) c.body_of.ensures.reads c.in_ok-body.ensures.fault c.in-Ok.ensures.does (λ e. let r = c.in-Ok.ensures.refused e in (r.0, ap g.D.Spool.seen r.1)) c.in-Ok.ensures.spent

pub returns-in-Ok-clause-drawn : goal.returns-in-Ok-clause-drawn
returns-in-Ok-clause-drawn g c =
    drawn_sent (drawer (g.W.Draws.seen c.args.draws.now) (g.W.Draws.answers c.args.draws.now)) (drawer (g.W.Draws.seen c.bounce_of.new.draws) (g.W.Draws.answers c.bounce_of.new.draws)) (Ok c.in-Ok.field-0) c.bounce_of.ensures.steady c.in_ok-bounce.ensures.fault

pub returns-clause-steps : goal.returns-clause-steps
returns-clause-steps g c = λ entries spawner dialer whole holds kind.
    let s = g.D.Spool.seen c.args.spool.now in
    let m = g.D.Spool.seen c.body_of.new.spool in
    let d = drawer (g.W.Draws.seen c.args.draws.now) (g.W.Draws.answers c.args.draws.now) in
    let G = ground_by c.args.config.now c.args.maps.now c.args.moment d in
    let s' = g.D.Spool.seen c.give_back.new.spool in
    let at = control_is c.args.table.now entries c.args.self.now c.entry.result.now holds c.requires.ready (λ h among is. c.entry.ensures.is h (subst (λ q. Contains (seen q).entries h) (sym c.queue.ensures) among) is) in
    subst (λ q. Steps G entries c.args.table.now c.give_back.new.self c.args.self.now c.args.self.now (bench s spawner dialer) (bench s' spawner dialer) (Err q)) (sym c.stop_of.ensures)
    (exit_returned G entries c.args.table.now c.give_back.new.self c.args.self.now s m s' spawner dialer (Err c.in-Err.fault) c.entry.result.now.control c.in_ok-body.body c.in_ok-bounces.bounces c.in_ok-bounce.bounce kind
    c.requires.ready c.requires.rest c.requires.running holds whole at c.in_ok-bounce.ensures.made c.in_ok-bounces.ensures
    (λ files told stands. c.in_ok-body.ensures.body files entries told stands) c.body_of.ensures.reads c.in_ok-body.ensures.fault c.in-Err.ensures.does (λ e. let r = c.in-Err.ensures.refused e in (r.0, ap g.D.Spool.seen r.1)) c.in-Err.ensures.spent)

pub returns-clause-drawn : goal.returns-clause-drawn
returns-clause-drawn g c =
    subst (λ q. IsDrawnIn (drawer (g.W.Draws.seen c.args.draws.now) (g.W.Draws.answers c.args.draws.now)) (drawer (g.W.Draws.seen c.bounce_of.new.draws) (g.W.Draws.answers c.bounce_of.new.draws)) (Err q)) (sym c.stop_of.ensures)
    (drawn_sent (drawer (g.W.Draws.seen c.args.draws.now) (g.W.Draws.answers c.args.draws.now)) (drawer (g.W.Draws.seen c.bounce_of.new.draws) (g.W.Draws.answers c.bounce_of.new.draws)) (Err c.in-Err.fault) c.bounce_of.ensures.steady c.in_ok-bounce.ensures.fault)
