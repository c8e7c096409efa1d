-- A child is polled, a batch is tried, and what is left to do behind the last one.
use Rattle.std.proofs.Common.{◌<◌, length, refl, rules, sym}
use Rattle.queue_run.specs.Backs.{drawer}
use Rattle.queue_run.specs.Meant.{ground_of}
use Rattle.queue_run.specs.Holders.{holder_of}
use Rattle.queue_run.specs.Working.{bench, kind_in}
use Rattle.spool_store.specs.Entries.{Table as Entries}
use Rattle.queue_table.specs.Calls.{HoldsTable}
use Rattle.queue_run.proofs.AskingLemmas.{holds_by, table_by}
use Rattle.queue_run.proofs.AttemptLemmas.{trying}
use Rattle.queue_run.proofs.DrawLemmas.{DrawsNone, at_rest, steps_any, tries_none, undrawn, waits_none}
use Rattle.queue_run.proofs.runner.Runner.step.Goals as goal

pub returns-then-is_some : goal.returns-then-is_some
returns-then-is_some g c =
    let a = (bench (g.D.Spool.seen c.args.spool.now) (g.S.Spawner.seen c.args.spawner.now) (g.N.Dialer.seen c.args.dialer.now)) in
    let b = bench (g.D.Spool.seen c.wait.new.spool) (g.S.Spawner.seen c.wait.new.spawner) (g.N.Dialer.seen c.args.dialer.now) in
    let none : (entries : Entries) → DrawsNone (kind_in (ground_of c.args.config.now c.args.maps.now c.args.moment) entries (holder_of c.args.self.now)) = λ entries. waits_none (ground_of c.args.config.now c.args.maps.now c.args.moment) entries c.args.self.now (sym c.if-is_some.ensures) in record {
      steps = λ entries holds. steps_any c.args.config.now c.args.maps.now c.args.moment (drawer (g.W.Draws.seen c.args.draws.now) (g.W.Draws.answers c.args.draws.now)) entries c.args.table.now c.wait.new.table c.args.self.now c.wait.new.self a b c.wait.result (none entries)
          (c.wait.ensures.steps c.args.config.now c.args.maps.now entries (g.N.Dialer.seen c.args.dialer.now) c.requires.whole holds);
      drawn = undrawn (ground_of c.args.config.now c.args.maps.now c.args.moment) (table_by c.args.table.now) c.args.table.now c.wait.new.table c.args.self.now c.wait.new.self a b c.wait.result (drawer (g.W.Draws.seen c.args.draws.now) (g.W.Draws.answers c.args.draws.now)) (none (table_by c.args.table.now))
          (c.wait.ensures.steps c.args.config.now c.args.maps.now (table_by c.args.table.now) (g.N.Dialer.seen c.args.dialer.now) c.requires.whole (holds_by c.args.table.now));
      fixed = refl;
    }

pub returns-then-is_empty : goal.returns-then-is_empty
returns-then-is_empty g c = record {
  steps = λ entries holds. c.close.ensures.steps entries (g.S.Spawner.seen c.args.spawner.now) (g.N.Dialer.seen c.args.dialer.now) holds;
  drawn = c.close.ensures.drawn;
  fixed = c.close.ensures.fixed;
}

pub returns : goal.returns
returns g c =
    let some : 0 < length c.args.self.now.rest.items = search rules in
    let a = (bench (g.D.Spool.seen c.args.spool.now) (g.S.Spawner.seen c.args.spawner.now) (g.N.Dialer.seen c.args.dialer.now)) in
    let b = bench (g.D.Spool.seen c.attempt.new.spool) (g.S.Spawner.seen c.attempt.new.spawner) (g.N.Dialer.seen c.attempt.new.dialer) in
    let none : (entries : Entries) → HoldsTable c.args.table.now entries → DrawsNone (kind_in (ground_of c.args.config.now c.args.maps.now c.args.moment) entries (holder_of c.args.self.now)) = λ entries holds. tries_none (ground_of c.args.config.now c.args.maps.now c.args.moment) entries c.args.table.now c.args.self.now (trying (ground_of c.args.config.now c.args.maps.now c.args.moment) entries c.args.table.now c.args.self.now holds c.requires.ready some (at_rest c.args.self.now.running c.if-is_some.ensures)) in record {
      steps = λ entries holds. steps_any c.args.config.now c.args.maps.now c.args.moment (drawer (g.W.Draws.seen c.args.draws.now) (g.W.Draws.answers c.args.draws.now)) entries c.args.table.now c.attempt.new.table c.args.self.now c.attempt.new.self a b c.attempt.result (none entries holds) (c.attempt.ensures.steps entries holds);
      drawn = undrawn (ground_of c.args.config.now c.args.maps.now c.args.moment) (table_by c.args.table.now) c.args.table.now c.attempt.new.table c.args.self.now c.attempt.new.self a b c.attempt.result (drawer (g.W.Draws.seen c.args.draws.now) (g.W.Draws.answers c.args.draws.now)) (none (table_by c.args.table.now) (holds_by c.args.table.now))
          (c.attempt.ensures.steps (table_by c.args.table.now) (holds_by c.args.table.now));
      fixed = refl;
    }
