-- The step of the first one whose child runs, and the end where there is none.
use Rattle.std.proofs.Common.{◌≡◌, ◌∙◌, Err, Ok, refl, rules, arith, subst, sym}
use Rattle.queue_run.specs.Backs.{IsDrawnIn, drawer}
use Rattle.queue_run.specs.Working.{IsWhole, bench}
use Rattle.mail_core.specs.Judges.{drawing}
use Rattle.mail_core.specs.declared.crew.Crew.{Crew}
use Rattle.mail_core.specs.inner.Carrying.{bare}
use Rattle.mail_core.specs.inner.Turns.{Stops}
use Rattle.mail_core.proofs.OutLemmas.{drawn_calm, out_apart, out_of}
use Rattle.mail_core.proofs.RestLemmas.{ground_same}
use Rattle.mail_core.proofs.StopLemmas.{split_first, stops_none, stops_one}
use Rattle.mail_core.proofs.crew.Crew.stop.Goals as goal

pub returns-in_default-clause-stops : goal.returns-in_default-clause-stops
returns-in_default-clause-stops g c = λ site m under is holds latest on.
    let j = drawing (g.W.Draws.seen c.args.draws.now) (g.W.Draws.answers c.args.draws.now) in
    let a = bench (g.D.Spool.seen c.args.spool.now) (g.S.Spawner.seen c.args.spawner.now) (g.N.Dialer.seen c.args.dialer.now) in
    stops_none j site m c.args.table.now c.args.self.now a is c.requires.manned holds (subst (λ q. IsWhole q c.args.table.now) (sym under.config_is) c.requires.whole) c.requires.agrees (sym c.in_default.ensures)

pub returns-in_default-clause-drawn : goal.returns-in_default-clause-drawn
returns-in_default-clause-drawn g c = drawn_calm (drawer (g.W.Draws.seen c.args.draws.now) (g.W.Draws.answers c.args.draws.now))

pub carry-requires-clause-out : goal.carry-requires-clause-out
carry-requires-clause-out g c =
    let self = c.args.self.now in
    let rest : Crew = record self { runners = c.remove-runner.new.self } in
    let s = split_first self.runners.items c.in-Some.place c.remove-runner.result (sym c.in-Some.ensures) c.remove-runner.ensures.value in
    out_of c.args.table.now (g.S.Spawner.seen c.args.spawner.now) self rest c.remove-runner.result s.front s.back c.requires.manned s.whole (c.remove-runner.ensures.items ∙ s.left) refl

pub returns-in_err-carry-clause-stops : goal.returns-in_err-carry-clause-stops
returns-in_err-carry-clause-stops g c = λ site m under is holds latest on.
    let j = drawing (g.W.Draws.seen c.args.draws.now) (g.W.Draws.answers c.args.draws.now) in
    let a = bench (g.D.Spool.seen c.args.spool.now) (g.S.Spawner.seen c.args.spawner.now) (g.N.Dialer.seen c.args.dialer.now) in
    let b = bench (g.D.Spool.seen c.carry.new.spool) (g.S.Spawner.seen c.carry.new.spawner) (g.N.Dialer.seen c.carry.new.dialer) in
    let self = c.args.self.now in
    let rest : Crew = record self { runners = c.remove-runner.new.self } in
    let s = split_first self.runners.items c.in-Some.place c.remove-runner.result (sym c.in-Some.ensures) c.remove-runner.ensures.value in
    let out = out_of c.args.table.now (g.S.Spawner.seen c.args.spawner.now) self rest c.remove-runner.result s.front s.back c.requires.manned s.whole (c.remove-runner.ensures.items ∙ s.left) refl in
    let e : c.from_residual.result ≡ Err c.in_err-carry.field-0.0 = search rules in
    subst (λ q. Stops j site m c.args.table.now c.carry.new.table c.carry.new.self a b q) (sym e)
    (stops_one j site m c.args.table.now c.carry.new.table self rest c.carry.new.self c.remove-runner.result c.in-Some.place a b (Err c.in_err-carry.field-0.0) is s c.remove-runner.ensures.items refl refl
    (out_apart c.args.table.now (g.S.Spawner.seen c.args.spawner.now) rest c.remove-runner.result out)
    (ground_same j site m c.args.config.now c.args.maps.now c.args.moment c.args.table.now c.carry.new.table c.remove-runner.result rest c.carry.new.self a b (Err c.in_err-carry.field-0.0) under latest c.in_err-carry.ensures.carries holds))

pub returns-in_err-carry-clause-drawn : goal.returns-in_err-carry-clause-drawn
returns-in_err-carry-clause-drawn g c =
    let d = drawer (g.W.Draws.seen c.args.draws.now) (g.W.Draws.answers c.args.draws.now) in
    let d' = drawer (g.W.Draws.seen c.carry.new.draws) (g.W.Draws.answers c.carry.new.draws) in
    let e : c.from_residual.result ≡ Err c.in_err-carry.field-0.0 = search rules in
    subst (λ q. IsDrawnIn d d' (bare q)) (sym e) c.in_err-carry.ensures.drawn

pub returns-clause-stops : goal.returns-clause-stops
returns-clause-stops g c = λ site m under is holds latest on.
    let j = drawing (g.W.Draws.seen c.args.draws.now) (g.W.Draws.answers c.args.draws.now) in
    let a = bench (g.D.Spool.seen c.args.spool.now) (g.S.Spawner.seen c.args.spawner.now) (g.N.Dialer.seen c.args.dialer.now) in
    let b = bench (g.D.Spool.seen c.carry.new.spool) (g.S.Spawner.seen c.carry.new.spawner) (g.N.Dialer.seen c.carry.new.dialer) in
    let self = c.args.self.now in
    let rest : Crew = record self { runners = c.remove-runner.new.self } in
    let s = split_first self.runners.items c.in-Some.place c.remove-runner.result (sym c.in-Some.ensures) c.remove-runner.ensures.value in
    let out = out_of c.args.table.now (g.S.Spawner.seen c.args.spawner.now) self rest c.remove-runner.result s.front s.back c.requires.manned s.whole (c.remove-runner.ensures.items ∙ s.left) refl in
    stops_one j site m c.args.table.now c.carry.new.table self rest c.carry.new.self c.remove-runner.result c.in-Some.place a b (Ok tt) is s c.remove-runner.ensures.items refl refl
    (out_apart c.args.table.now (g.S.Spawner.seen c.args.spawner.now) rest c.remove-runner.result out)
    (ground_same j site m c.args.config.now c.args.maps.now c.args.moment c.args.table.now c.carry.new.table c.remove-runner.result rest c.carry.new.self a b (Ok tt) under latest c.in_ok-carry.ensures.carries holds)

pub returns-clause-drawn : goal.returns-clause-drawn
returns-clause-drawn g c = record { steady = c.in_ok-carry.ensures.drawn.steady; cause = c.in_ok-carry.ensures.drawn.cause }

pub carry-requires-clause-room : goal.carry-requires-clause-room
carry-requires-clause-room g c =
    let len = c.remove-runner.ensures.len in
    let room = c.remove-runner.ensures.capacity in
    let ok = c.args.self.now.runners.ok in
    omega (arith, len, room, ok)
