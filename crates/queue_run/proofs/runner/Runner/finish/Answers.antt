-- A finish that went well, and one that failed.
use Rattle.std.proofs.Common.{Ok, Err, ap, refl}
use Rattle.spool_store.specs.Stores.{StoreSeen}
use Rattle.queue_run.specs.declared.runner.Did.TheVariants as did
use Rattle.queue_run.specs.declared.runner.RunStop.TheVariants as stop
use Rattle.queue_run.specs.Meant.{ground_of}
use Rattle.queue_run.proofs.FinishLemmas.{exit_finishes, rose_of}
use Rattle.queue_run.proofs.runner.Runner.finish.Goals as goal

pub returns-in-Ok : goal.returns-in-Ok
returns-in-Ok g c = record {
  steps = λ config maps entries spawner dialer whole holds kind.
      let s = g.D.Spool.seen c.args.spool.now in
      let s' = g.D.Spool.seen c.finish.new.spool in
      exit_finishes (ground_of config maps c.args.moment) entries c.args.table.now c.finish.new.self c.args.self.now s s' spawner dialer (Ok did.Free) kind holds whole
      (c.finish.ensures.stands entries) c.finish.ensures.frame c.finish.ensures.later c.in-Ok.ensures.calm tt (c.in-Ok.ensures.holds entries holds) c.in-Ok.ensures.agrees c.finish.ensures.stays
      (ap (λ (q : StoreSeen). q.broken) c.in-Ok.ensures.ok) (ap (λ (q : StoreSeen). q.entries) c.in-Ok.ensures.ok) refl tt;
}

pub returns-in-Err : goal.returns-in-Err
returns-in-Err g c = record {
  steps = λ config maps entries spawner dialer whole holds kind.
      let s = g.D.Spool.seen c.args.spool.now in
      let s' = g.D.Spool.seen c.finish.new.spool in
      exit_finishes (ground_of config maps c.args.moment) entries c.args.table.now c.finish.new.self c.args.self.now s s' spawner dialer (Err stop.SpoolFault) kind holds whole
      (c.finish.ensures.stands entries) c.finish.ensures.frame c.finish.ensures.later tt (rose_of c.requires.whole c.in-Err.ensures.cause) tt tt c.finish.ensures.stays
      tt tt tt refl;
}
