-- A claim and the first step behind it.
use Rattle.std.proofs.Common.{◌≡◌, Err, Ok, Some, rules, subst, sym}
use Rattle.std.proofs.lemmas.Result.{err_from_is_err_and}
use Rattle.queue_run.specs.Backs.{IsDrawnIn, drawer}
use Rattle.queue_run.specs.Claims.{IsClaimed}
use Rattle.queue_run.specs.Holders.{holder_of}
use Rattle.queue_run.specs.Working.{bench}
use Rattle.queue_table.specs.Calls.{store}
use Rattle.mail_core.specs.Judges.{drawing}
use Rattle.mail_core.specs.inner.Carrying.{bare}
use Rattle.mail_core.specs.inner.Nexts.{IsNext}
use Rattle.mail_core.specs.inner.Turns.{Rests}
use Rattle.mail_core.proofs.FirstLemmas.{chosen, next_id, next_out}
use Rattle.mail_core.proofs.OutLemmas.{drawn_none}
use Rattle.mail_core.proofs.RestLemmas.{claimed_out, ground_same, rests_claim, rests_starving}
use Rattle.mail_core.proofs.crew.Crew.begin.Goals as goal

pub claim-requires : goal.claim-requires
claim-requires g c = record { entry = next_id c.args.self.now.waiting c.args.self.now.list c.args.moment (store c.args.table.now).entries c.args.id.now c.requires.next }

pub carry-requires-clause-out : goal.carry-requires-clause-out
carry-requires-clause-out g c =
    let n = next_id c.args.self.now.waiting c.args.self.now.list c.args.moment (store c.args.table.now).entries c.args.id.now c.requires.next in
    let out = next_out c.args.self.now.waiting c.args.self.now.list c.args.moment (store c.args.table.now).entries c.args.id.now c.requires.next in
    claimed_out c.args.config.now c.args.maps.now (g.S.Spawner.seen c.args.spawner.now) c.args.table.now c.args.self.now c.claim.new.self c.in_ok-runner.runner c.args.id.now n.held c.requires.manned out n.is
    (c.in_ok-runner.ensures.claims n.held n.among n.is) c.in_ok-runner.ensures.ready (c.in_ok-runner.ensures.holds n.held n.among n.is)

pub returns-in_err-runner-clause-rests : goal.returns-in_err-runner-clause-rests
returns-in_err-runner-clause-rests g c = λ site m under is holds latest on.
    let j = drawing (g.W.Draws.seen c.args.draws.now) (g.W.Draws.answers c.args.draws.now) in
    let a = bench (g.D.Spool.seen c.args.spool.now) (g.S.Spawner.seen c.args.spawner.now) (g.N.Dialer.seen c.args.dialer.now) in
    let p = err_from_is_err_and c.from_residual.result c.from_residual.ensures.1 in
    rw (p.1, p.2) (rests_starving j site m c.args.table.now c.claim.new.self a)

pub returns-in_err-runner-clause-drawn : goal.returns-in_err-runner-clause-drawn
returns-in_err-runner-clause-drawn g c =
    let p = err_from_is_err_and c.from_residual.result c.from_residual.ensures.1 in
    rw (p.1, p.2) (drawn_none (drawer (g.W.Draws.seen c.args.draws.now) (g.W.Draws.answers c.args.draws.now)))

pub returns-in_err-carry-clause-rests : goal.returns-in_err-carry-clause-rests
returns-in_err-carry-clause-rests g c = λ site m under is holds latest on.
    let j = drawing (g.W.Draws.seen c.args.draws.now) (g.W.Draws.answers c.args.draws.now) in
    let a = bench (g.D.Spool.seen c.args.spool.now) (g.S.Spawner.seen c.args.spawner.now) (g.N.Dialer.seen c.args.dialer.now) in
    let b = bench (g.D.Spool.seen c.carry.new.spool) (g.S.Spawner.seen c.carry.new.spawner) (g.N.Dialer.seen c.carry.new.dialer) in
    let out = next_out c.args.self.now.waiting c.args.self.now.list c.args.moment (store c.args.table.now).entries c.args.id.now c.requires.next in
    let x = chosen site m c.args.table.now c.args.self.now is holds c.args.id.now c.requires.ascending (subst (λ n. IsNext c.args.self.now.waiting c.args.self.now.list n (store c.args.table.now).entries (Some c.args.id.now)) (sym latest) c.requires.next) in
    let e : c.from_residual-in_err-carry.result ≡ Err c.in_err-carry.field-0.0 = search rules in
    subst (λ q. Rests j site m c.args.table.now c.carry.new.table c.carry.new.self a b q) (sym e)
    (rests_claim j site m c.args.table.now c.carry.new.table c.args.self.now c.claim.new.self c.carry.new.self c.in_ok-runner.runner c.args.id.now a b (Err c.in_err-carry.field-0.0) is c.requires.manned out x
    (subst (λ q. IsClaimed q site.maps c.args.id.now x.held.entry.control (holder_of c.in_ok-runner.runner)) (sym under.config_is) (subst (λ q. IsClaimed c.args.config.now q c.args.id.now x.held.entry.control (holder_of c.in_ok-runner.runner)) (sym under.maps_are) (c.in_ok-runner.ensures.claims x.held x.among x.is)))
    (c.in_ok-runner.ensures.holds x.held x.among x.is)
    (ground_same j site m c.args.config.now c.args.maps.now c.args.moment c.args.table.now c.carry.new.table c.in_ok-runner.runner c.claim.new.self c.carry.new.self a b (Err c.in_err-carry.field-0.0) under latest c.in_err-carry.ensures.carries holds))

pub returns-in_err-carry-clause-drawn : goal.returns-in_err-carry-clause-drawn
returns-in_err-carry-clause-drawn g c =
    let d = drawer (g.W.Draws.seen c.args.draws.now) (g.W.Draws.answers c.args.draws.now) in
    let d' = drawer (g.W.Draws.seen c.carry.new.draws) (g.W.Draws.answers c.carry.new.draws) in
    let e : c.from_residual-in_err-carry.result ≡ Err c.in_err-carry.field-0.0 = search rules in
    subst (λ q. IsDrawnIn d d' (bare q)) (sym e) c.in_err-carry.ensures.drawn

pub returns-clause-rests : goal.returns-clause-rests
returns-clause-rests g c = λ site m under is holds latest on.
    let j = drawing (g.W.Draws.seen c.args.draws.now) (g.W.Draws.answers c.args.draws.now) in
    let a = bench (g.D.Spool.seen c.args.spool.now) (g.S.Spawner.seen c.args.spawner.now) (g.N.Dialer.seen c.args.dialer.now) in
    let b = bench (g.D.Spool.seen c.carry.new.spool) (g.S.Spawner.seen c.carry.new.spawner) (g.N.Dialer.seen c.carry.new.dialer) in
    let out = next_out c.args.self.now.waiting c.args.self.now.list c.args.moment (store c.args.table.now).entries c.args.id.now c.requires.next in
    let x = chosen site m c.args.table.now c.args.self.now is holds c.args.id.now c.requires.ascending (subst (λ n. IsNext c.args.self.now.waiting c.args.self.now.list n (store c.args.table.now).entries (Some c.args.id.now)) (sym latest) c.requires.next) in
    subst (λ q. Rests j site m c.args.table.now c.carry.new.table c.carry.new.self a b (Ok q)) (sym c.act.ensures)
    (rests_claim j site m c.args.table.now c.carry.new.table c.args.self.now c.claim.new.self c.carry.new.self c.in_ok-runner.runner c.args.id.now a b (Ok tt) is c.requires.manned out x
    (subst (λ q. IsClaimed q site.maps c.args.id.now x.held.entry.control (holder_of c.in_ok-runner.runner)) (sym under.config_is) (subst (λ q. IsClaimed c.args.config.now q c.args.id.now x.held.entry.control (holder_of c.in_ok-runner.runner)) (sym under.maps_are) (c.in_ok-runner.ensures.claims x.held x.among x.is)))
    (c.in_ok-runner.ensures.holds x.held x.among x.is)
    (ground_same j site m c.args.config.now c.args.maps.now c.args.moment c.args.table.now c.carry.new.table c.in_ok-runner.runner c.claim.new.self c.carry.new.self a b (Ok tt) under latest c.in_ok-carry.ensures.carries holds))

pub returns-clause-drawn : goal.returns-clause-drawn
returns-clause-drawn g c = record { steady = c.in_ok-carry.ensures.drawn.steady; cause = c.in_ok-carry.ensures.drawn.cause }
