-- The step of the first one, and nothing where nobody holds an entry.
use Rattle.std.proofs.Common.{◌≡◌, ◌<◌, ◌∙◌, ◌∷◌, Err, Ok, None, [], length, refl, rules, arith, subst, sym, ap}
use Rattle.std.specs.List.{remove}
use Rattle.queue_run.specs.Backs.{IsDrawnIn, drawer}
use Rattle.queue_run.specs.Working.{IsWhole, bench}
use Rattle.queue_table.specs.Calls.{store}
use Rattle.mail_core.specs.Judges.{drawing}
use Rattle.mail_core.specs.declared.crew.Crew.{Crew}
use Rattle.mail_core.specs.inner.Carrying.{bare}
use Rattle.mail_core.specs.inner.Nexts.{IsNext}
use Rattle.mail_core.specs.inner.Turns.{Rests}
use Rattle.mail_core.proofs.FirstLemmas.{none_next}
use Rattle.mail_core.proofs.OutLemmas.{drawn_calm, front_split, nothing, out_apart, out_of}
use Rattle.mail_core.proofs.RestLemmas.{ground_same, rests_front, rests_quiet}
use Rattle.mail_core.proofs.crew.Crew.go_on.Goals as goal

pub returns-then-is_empty-clause-rests : goal.returns-then-is_empty-clause-rests
returns-then-is_empty-clause-rests g c = λ site m under is holds latest on.
    let j = drawing (g.W.Draws.seen c.args.draws.now) (g.W.Draws.answers c.args.draws.now) in
    let a = bench (g.D.Spool.seen c.args.spool.now) (g.S.Spawner.seen c.args.spawner.now) (g.N.Dialer.seen c.args.dialer.now) in
    let self = c.args.self.now in
    let none : length self.runners.items ≡ 0 = search rules in
    let empty = nothing self.runners.items none in
    subst (λ q. Rests j site m c.args.table.now c.args.table.now self a a (Ok q)) (sym c.act.ensures)
    (rests_quiet j site m c.args.table.now self a is c.requires.manned holds (subst (λ q. IsWhole q c.args.table.now) (sym under.config_is) c.requires.whole) c.requires.agrees on empty
    (none_next site m c.args.table.now self is holds (subst (λ n. IsNext self.waiting self.list n (store c.args.table.now).entries None) (sym latest) c.requires.next)))

pub returns-then-is_empty-clause-drawn : goal.returns-then-is_empty-clause-drawn
returns-then-is_empty-clause-drawn g c = drawn_calm (drawer (g.W.Draws.seen c.args.draws.now) (g.W.Draws.answers c.args.draws.now))

pub carry-requires-clause-out : goal.carry-requires-clause-out
carry-requires-clause-out g c =
    let self = c.args.self.now in
    let rest : Crew = record self { runners = c.remove-runner.new.self } in
    let some : 0 < length self.runners.items = search rules in
    out_of c.args.table.now (g.S.Spawner.seen c.args.spawner.now) self rest c.remove-runner.result [] (remove self.runners.items 0) c.requires.manned (front_split self.runners.items c.remove-runner.result some c.remove-runner.ensures.value) c.remove-runner.ensures.items refl

pub returns-in_err-carry-clause-rests : goal.returns-in_err-carry-clause-rests
returns-in_err-carry-clause-rests g c = λ site m under is holds latest on.
    let j = drawing (g.W.Draws.seen c.args.draws.now) (g.W.Draws.answers c.args.draws.now) in
    let a = bench (g.D.Spool.seen c.args.spool.now) (g.S.Spawner.seen c.args.spawner.now) (g.N.Dialer.seen c.args.dialer.now) in
    let b = bench (g.D.Spool.seen c.carry.new.spool) (g.S.Spawner.seen c.carry.new.spawner) (g.N.Dialer.seen c.carry.new.dialer) in
    let self = c.args.self.now in
    let rest : Crew = record self { runners = c.remove-runner.new.self } in
    let some : 0 < length self.runners.items = search rules in
    let split = front_split self.runners.items c.remove-runner.result some c.remove-runner.ensures.value in
    let out = out_of c.args.table.now (g.S.Spawner.seen c.args.spawner.now) self rest c.remove-runner.result [] (remove self.runners.items 0) c.requires.manned split c.remove-runner.ensures.items refl in
    let e : c.from_residual.result ≡ Err c.in_err-carry.field-0.0 = search rules in
    subst (λ q. Rests j site m c.args.table.now c.carry.new.table c.carry.new.self a b q) (sym e)
    (rests_front j site m c.args.table.now c.carry.new.table self rest c.carry.new.self c.remove-runner.result a b (Err c.in_err-carry.field-0.0) is (split ∙ ap (λ q. c.remove-runner.result ∷ q) (sym c.remove-runner.ensures.items)) refl refl
    (out_apart c.args.table.now (g.S.Spawner.seen c.args.spawner.now) rest c.remove-runner.result out)
    (none_next site m c.args.table.now self is holds (subst (λ n. IsNext self.waiting self.list n (store c.args.table.now).entries None) (sym latest) c.requires.next))
    (ground_same j site m c.args.config.now c.args.maps.now c.args.moment c.args.table.now c.carry.new.table c.remove-runner.result rest c.carry.new.self a b (Err c.in_err-carry.field-0.0) under latest c.in_err-carry.ensures.carries holds))

pub returns-in_err-carry-clause-drawn : goal.returns-in_err-carry-clause-drawn
returns-in_err-carry-clause-drawn g c =
    let d = drawer (g.W.Draws.seen c.args.draws.now) (g.W.Draws.answers c.args.draws.now) in
    let d' = drawer (g.W.Draws.seen c.carry.new.draws) (g.W.Draws.answers c.carry.new.draws) in
    let e : c.from_residual.result ≡ Err c.in_err-carry.field-0.0 = search rules in
    subst (λ q. IsDrawnIn d d' (bare q)) (sym e) c.in_err-carry.ensures.drawn

pub returns-clause-rests : goal.returns-clause-rests
returns-clause-rests g c = λ site m under is holds latest on.
    let j = drawing (g.W.Draws.seen c.args.draws.now) (g.W.Draws.answers c.args.draws.now) in
    let a = bench (g.D.Spool.seen c.args.spool.now) (g.S.Spawner.seen c.args.spawner.now) (g.N.Dialer.seen c.args.dialer.now) in
    let b = bench (g.D.Spool.seen c.carry.new.spool) (g.S.Spawner.seen c.carry.new.spawner) (g.N.Dialer.seen c.carry.new.dialer) in
    let self = c.args.self.now in
    let rest : Crew = record self { runners = c.remove-runner.new.self } in
    let some : 0 < length self.runners.items = search rules in
    let split = front_split self.runners.items c.remove-runner.result some c.remove-runner.ensures.value in
    let out = out_of c.args.table.now (g.S.Spawner.seen c.args.spawner.now) self rest c.remove-runner.result [] (remove self.runners.items 0) c.requires.manned split c.remove-runner.ensures.items refl in
    subst (λ q. Rests j site m c.args.table.now c.carry.new.table c.carry.new.self a b (Ok q)) (sym c.act-2.ensures)
    (rests_front j site m c.args.table.now c.carry.new.table self rest c.carry.new.self c.remove-runner.result a b (Ok tt) is (split ∙ ap (λ q. c.remove-runner.result ∷ q) (sym c.remove-runner.ensures.items)) refl refl
    (out_apart c.args.table.now (g.S.Spawner.seen c.args.spawner.now) rest c.remove-runner.result out)
    (none_next site m c.args.table.now self is holds (subst (λ n. IsNext self.waiting self.list n (store c.args.table.now).entries None) (sym latest) c.requires.next))
    (ground_same j site m c.args.config.now c.args.maps.now c.args.moment c.args.table.now c.carry.new.table c.remove-runner.result rest c.carry.new.self a b (Ok tt) under latest c.in_ok-carry.ensures.carries holds))

pub returns-clause-drawn : goal.returns-clause-drawn
returns-clause-drawn g c = record { steady = c.in_ok-carry.ensures.drawn.steady; cause = c.in_ok-carry.ensures.drawn.cause }

pub carry-requires-clause-room : goal.carry-requires-clause-room
carry-requires-clause-room g c =
    let len = c.remove-runner.ensures.len in
    let room = c.remove-runner.ensures.capacity in
    let ok = c.args.self.now.runners.ok in
    omega (arith, len, room, ok)
