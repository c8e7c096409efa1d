-- A network mailer with and without peers, and a program that can't be started or can.
use Rattle.std.proofs.Common.{◌≡◌, ◌∙◌, [], Err, refl, ap, sym, subst, if◌then◌else◌, rules}
use Rattle.queue_run.specs.declared.runner.RunStop.TheVariants.{NoMemory}
use Rattle.queue_run.specs.Kinds.{Settles, kind_by_users}
use Rattle.queue_run.specs.Meant.{ground_of}
use Rattle.queue_run.specs.Results.{no_user}
use Rattle.queue_run.specs.Working.{Steps, bench}
use Rattle.queue_run.proofs.AimLemmas.{kind_network, kind_program, some_peers}
use Rattle.queue_run.proofs.AttemptLemmas.{starved, trying}
use Rattle.queue_run.proofs.runner.Runner.attempt_by.Goals as goal

pub returns-in_err-peers : goal.returns-in_err-peers
returns-in_err-peers g c = record {
  steps = λ entries holds.
      let t = trying (ground_of c.args.config.now c.args.maps.now c.args.moment) entries c.args.table.now c.args.self.now holds c.requires.ready c.requires.some c.requires.running in
      let e : c.from_residual.result ≡ Err NoMemory = search rules in
      subst (λ q. Steps (ground_of c.args.config.now c.args.maps.now c.args.moment) entries c.args.table.now c.args.table.now c.args.self.now c.args.self.now (bench (g.D.Spool.seen c.args.spool.now) (g.S.Spawner.seen c.args.spawner.now) (g.N.Dialer.seen c.args.dialer.now)) (bench (g.D.Spool.seen c.args.spool.now) (g.S.Spawner.seen c.args.spawner.now) (g.N.Dialer.seen c.args.dialer.now)) q) (sym e)
      (starved (ground_of c.args.config.now c.args.maps.now c.args.moment) entries c.args.table.now c.args.self.now (g.D.Spool.seen c.args.spool.now) (g.S.Spawner.seen c.args.spawner.now) (g.N.Dialer.seen c.args.dialer.now) t);
}

pub returns-then-is_empty : goal.returns-then-is_empty
returns-then-is_empty g c = record {
  steps = λ entries holds.
      let t = trying (ground_of c.args.config.now c.args.maps.now c.args.moment) entries c.args.table.now c.args.self.now holds c.requires.ready c.requires.some c.requires.running in
      c.settle.ensures.steps c.args.config.now c.args.maps.now entries (g.S.Spawner.seen c.args.spawner.now) (g.N.Dialer.seen c.args.dialer.now) t.batch c.requires.whole holds t.first
      (t.kind ∙ kind_network (ground_of c.args.config.now c.args.maps.now c.args.moment) entries c.args.self.now t.held.entry.control t.batch c.args.mailer.now [] (c.requires.goes t.batch t.first) (sym c.if-is_network.ensures) (sym (c.if-is_empty.ensures.0 refl) ∙ c.in_ok-peers.ensures t.held t.among t.is t.batch t.first) ∙ ap (Settles t.batch) (sym c.no_host.ensures));
}

pub returns-then-is_network : goal.returns-then-is_network
returns-then-is_network g c = record {
  steps = λ entries holds.
      let t = trying (ground_of c.args.config.now c.args.maps.now c.args.moment) entries c.args.table.now c.args.self.now holds c.requires.ready c.requires.some c.requires.running in
      c.talk.ensures.steps entries (g.S.Spawner.seen c.args.spawner.now) t.batch c.requires.whole holds t.first
      (t.kind ∙ kind_network (ground_of c.args.config.now c.args.maps.now c.args.moment) entries c.args.self.now t.held.entry.control t.batch c.args.mailer.now c.in_ok-peers.peers (c.requires.goes t.batch t.first) (sym c.if-is_network.ensures) (c.in_ok-peers.ensures t.held t.among t.is t.batch t.first) ∙ some_peers t.batch c.args.mailer.now c.in_ok-peers.peers (λ e. let q = c.if-is_empty.ensures.1 e in cc q));
}

pub returns-then-not-takes_users : goal.returns-then-not-takes_users
returns-then-not-takes_users g c = record {
  steps = λ entries holds.
      let t = trying (ground_of c.args.config.now c.args.maps.now c.args.moment) entries c.args.table.now c.args.self.now holds c.requires.ready c.requires.some c.requires.running in
      c.settle-then-not-takes_users.ensures.steps c.args.config.now c.args.maps.now entries (g.S.Spawner.seen c.args.spawner.now) (g.N.Dialer.seen c.args.dialer.now) t.batch c.requires.whole holds t.first
      (t.kind ∙ kind_program (ground_of c.args.config.now c.args.maps.now c.args.moment) entries c.args.self.now t.held.entry.control t.batch c.args.mailer.now (c.requires.goes t.batch t.first) (sym c.if-is_network.ensures) ∙ ap (λ q. if q then kind_by_users t.batch c.args.mailer.now (Rattle.std.specs.List.list_all Rattle.mailer_pipe.specs.Arguments.is_argument t.batch.users) else Settles t.batch no_user) (sym c.if-not-takes_users.ensures) ∙ ap (Settles t.batch) (sym c.no_user.ensures));
}

pub returns-then-not-has_arguments : goal.returns-then-not-has_arguments
returns-then-not-has_arguments g c = record {
  steps = λ entries holds.
      let t = trying (ground_of c.args.config.now c.args.maps.now c.args.moment) entries c.args.table.now c.args.self.now holds c.requires.ready c.requires.some c.requires.running in
      c.settle-then-not-has_arguments.ensures.steps c.args.config.now c.args.maps.now entries (g.S.Spawner.seen c.args.spawner.now) (g.N.Dialer.seen c.args.dialer.now) t.batch c.requires.whole holds t.first
      (t.kind ∙ kind_program (ground_of c.args.config.now c.args.maps.now c.args.moment) entries c.args.self.now t.held.entry.control t.batch c.args.mailer.now (c.requires.goes t.batch t.first) (sym c.if-is_network.ensures) ∙ ap (λ q. if q then kind_by_users t.batch c.args.mailer.now (Rattle.std.specs.List.list_all Rattle.mailer_pipe.specs.Arguments.is_argument t.batch.users) else Settles t.batch no_user) (sym c.if-not-takes_users.ensures)
      ∙ ap (kind_by_users t.batch c.args.mailer.now) (sym (c.if-not-has_arguments.ensures t.batch t.first)) ∙ ap (Settles t.batch) (sym c.no_argument.ensures));
}

pub returns : goal.returns
returns g c = record {
  steps = λ entries holds.
      let t = trying (ground_of c.args.config.now c.args.maps.now c.args.moment) entries c.args.table.now c.args.self.now holds c.requires.ready c.requires.some c.requires.running in
      c.start.ensures.steps entries (g.N.Dialer.seen c.args.dialer.now) t.batch c.requires.whole holds t.first
      (t.kind ∙ kind_program (ground_of c.args.config.now c.args.maps.now c.args.moment) entries c.args.self.now t.held.entry.control t.batch c.args.mailer.now (c.requires.goes t.batch t.first) (sym c.if-is_network.ensures) ∙ ap (λ q. if q then kind_by_users t.batch c.args.mailer.now (Rattle.std.specs.List.list_all Rattle.mailer_pipe.specs.Arguments.is_argument t.batch.users) else Settles t.batch no_user) (sym c.if-not-takes_users.ensures)
      ∙ ap (kind_by_users t.batch c.args.mailer.now) (sym (c.if-not-has_arguments.ensures t.batch t.first)));
}
