-- A route that is refused, and a mailer that isn't there.
use Rattle.std.proofs.Common.{◌≡◌, ◌∙◌, Err, ap, sym, subst, rules}
use Rattle.queue_run.specs.declared.runner.RunStop.TheVariants.{NoMemory}
use Rattle.queue_run.specs.Kinds.{Settles}
use Rattle.queue_run.specs.Meant.{ground_of}
use Rattle.queue_run.specs.Working.{Steps, bench}
use Rattle.std.specs.Option.{option_copied}
use Rattle.queue_run.proofs.AimLemmas.{kind_nobody, kind_refused}
use Rattle.queue_run.proofs.AttemptLemmas.{starved, trying}
use Rattle.queue_run.proofs.runner.Runner.attempt.Goals as goal

pub returns-in_err-one-in-Refuses : goal.returns-in_err-one-in-Refuses
returns-in_err-one-in-Refuses g c = record {
  steps = λ entries holds.
      let t = trying (ground_of c.args.config.now c.args.maps.now c.args.moment) entries c.args.table.now c.args.self.now holds c.requires.ready c.requires.some c.requires.running in
      let e : c.from_residual.result ≡ Err NoMemory = search rules in
      subst (λ q. Steps (ground_of c.args.config.now c.args.maps.now c.args.moment) entries c.args.table.now c.args.table.now c.args.self.now c.args.self.now (bench (g.D.Spool.seen c.args.spool.now) (g.S.Spawner.seen c.args.spawner.now) (g.N.Dialer.seen c.args.dialer.now)) (bench (g.D.Spool.seen c.args.spool.now) (g.S.Spawner.seen c.args.spawner.now) (g.N.Dialer.seen c.args.dialer.now)) q) (sym e)
      (starved (ground_of c.args.config.now c.args.maps.now c.args.moment) entries c.args.table.now c.args.self.now (g.D.Spool.seen c.args.spool.now) (g.S.Spawner.seen c.args.spawner.now) (g.N.Dialer.seen c.args.dialer.now) t);
}

pub returns-in_ok-one-in-Refuses : goal.returns-in_ok-one-in-Refuses
returns-in_ok-one-in-Refuses g c = record {
  steps = λ entries holds.
      let t = trying (ground_of c.args.config.now c.args.maps.now c.args.moment) entries c.args.table.now c.args.self.now holds c.requires.ready c.requires.some c.requires.running in
      c.settle.ensures.steps c.args.config.now c.args.maps.now entries (g.S.Spawner.seen c.args.spawner.now) (g.N.Dialer.seen c.args.dialer.now) t.batch c.requires.whole holds t.first
      (t.kind ∙ kind_refused (ground_of c.args.config.now c.args.maps.now c.args.moment) entries c.args.self.now t.held.entry.control t.batch c.in-Refuses.error (ap (λ b. b.resolved) (sym (c.next.ensures t.batch t.first)) ∙ c.in-Refuses.is) ∙ ap (Settles t.batch) (sym c.in_ok-one-in-Refuses.ensures));
}

pub returns-in-None : goal.returns-in-None
returns-in-None g c = record {
  steps = λ entries holds.
      let t = trying (ground_of c.args.config.now c.args.maps.now c.args.moment) entries c.args.table.now c.args.self.now holds c.requires.ready c.requires.some c.requires.running in
      c.settle-in-None.ensures.steps c.args.config.now c.args.maps.now entries (g.S.Spawner.seen c.args.spawner.now) (g.N.Dialer.seen c.args.dialer.now) t.batch c.requires.whole holds t.first
      (t.kind ∙ kind_nobody (ground_of c.args.config.now c.args.maps.now c.args.moment) entries c.args.self.now t.held.entry.control t.batch c.in-Goes.triple (ap (λ b. b.resolved) (sym (c.next.ensures t.batch t.first)) ∙ c.in-Goes.is) (sym c.mailer.ensures ∙ ap option_copied c.in-None.is) ∙ ap (Settles t.batch) (sym c.no_mailer.ensures));
}
