-- A step that ends the run, and one behind which it goes on.
use Rattle.std.proofs.Common.{◌≡◌, Err, rules, subst, sym}
use Rattle.std.proofs.lemmas.List.Elements.{All-head}
use Rattle.queue_run.specs.Backs.{IsDrawnIn, drawer}
use Rattle.queue_run.specs.Meant.{ground_by}
use Rattle.queue_run.specs.Working.{bench}
use Rattle.mail_core.specs.inner.Carrying.{Carries, IsSettled, bare}
use Rattle.mail_core.specs.Crews.{IsAble}
use Rattle.mail_core.proofs.CarryLemmas.{carried, uncarried}
use Rattle.mail_core.proofs.crew.Crew.carry.Goals as goal

pub step-requires-clause-ready : goal.step-requires-clause-ready
step-requires-clause-ready g c = (All-head (IsAble c.args.table.now (g.S.Spawner.seen c.args.spawner.now)) c.args.runner c.args.self.now.runners.items c.requires.out.able.each).ready

pub step-requires-clause-child : goal.step-requires-clause-child
step-requires-clause-child g c = (All-head (IsAble c.args.table.now (g.S.Spawner.seen c.args.spawner.now)) c.args.runner c.args.self.now.runners.items c.requires.out.able.each).child

pub returns-in_err-did-clause-carries : goal.returns-in_err-did-clause-carries
returns-in_err-did-clause-carries g c = λ entries holds.
    let d = drawer (g.W.Draws.seen c.args.draws.now) (g.W.Draws.answers c.args.draws.now) in
    let G = ground_by c.args.config.now c.args.maps.now c.args.moment d in
    let a = bench (g.D.Spool.seen c.args.spool.now) (g.S.Spawner.seen c.args.spawner.now) (g.N.Dialer.seen c.args.dialer.now) in
    let b = bench (g.D.Spool.seen c.step.new.spool) (g.S.Spawner.seen c.step.new.spawner) (g.N.Dialer.seen c.step.new.dialer) in
    let e : c.from_residual.result ≡ Err c.in_err-did.field-0.0 = search rules in
    subst (λ q. Carries G entries c.args.table.now c.step.new.table c.args.runner c.args.self.now c.args.self.now a b q) (sym e)
    (uncarried G entries c.args.table.now c.step.new.table c.args.runner c.step.new.self c.args.self.now c.args.self.now a b c.in_err-did.field-0.0 (c.in_err-did.ensures.steps entries holds))

pub returns-in_err-did-clause-drawn : goal.returns-in_err-did-clause-drawn
returns-in_err-did-clause-drawn g c =
    let d = drawer (g.W.Draws.seen c.args.draws.now) (g.W.Draws.answers c.args.draws.now) in
    let d' = drawer (g.W.Draws.seen c.step.new.draws) (g.W.Draws.answers c.step.new.draws) in
    let e : c.from_residual.result ≡ Err c.in_err-did.field-0.0 = search rules in
    subst (λ q. IsDrawnIn d d' (bare q)) (sym e) c.in_err-did.ensures.drawn

pub returns-clause-carries : goal.returns-clause-carries
returns-clause-carries g c = λ entries holds.
    let d = drawer (g.W.Draws.seen c.args.draws.now) (g.W.Draws.answers c.args.draws.now) in
    let G = ground_by c.args.config.now c.args.maps.now c.args.moment d in
    let a = bench (g.D.Spool.seen c.args.spool.now) (g.S.Spawner.seen c.args.spawner.now) (g.N.Dialer.seen c.args.dialer.now) in
    let b = bench (g.D.Spool.seen c.step.new.spool) (g.S.Spawner.seen c.step.new.spawner) (g.N.Dialer.seen c.step.new.dialer) in
    carried G entries c.args.table.now c.step.new.table c.args.runner c.step.new.self c.args.self.now c.settle.new.self a b c.in_ok-did.did holds c.requires.out (c.in_ok-did.ensures.steps entries holds)
    (subst (λ n. IsSettled c.in_ok-did.did n c.step.new.self c.args.self.now c.settle.new.self) c.id-id.ensures c.settle.ensures)

pub returns-clause-drawn : goal.returns-clause-drawn
returns-clause-drawn g c = record { steady = c.in_ok-did.ensures.drawn.steady; cause = c.in_ok-did.ensures.drawn.cause }
