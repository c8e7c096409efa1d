-- A child that still runs, that ended, or that was lost.
use Rattle.std.proofs.Common.{FitsSigned, rules, w32, ◌∙◌, [], ◌∷◌, Ok, ap, sym, refl, subst, length, reverse}
use Rattle.std.proofs.lemmas.Int.{to_z-of_z}
use Rattle.mail_base.specs.Histories.{Gains}
use Rattle.spawn_edge.specs.Children.{poll_of}
use Rattle.spawn_edge.specs.declared.event.Poll.TheVariants as polls
use Rattle.spawn_edge.specs.declared.event.SpawnEvent.TheVariants.{Polled}
use Rattle.mailer_pipe.specs.Ends.{ended_with}
use Rattle.queue_run.specs.declared.runner.Running.{Running}
use Rattle.spawn_edge.specs.Spawned.{IsRunningAt}
use Rattle.queue_run.specs.declared.runner.Did.TheVariants as did
use Rattle.queue_run.specs.Meant.{ground_of}
use Rattle.queue_run.specs.Ready.{IsAttempt}
use Rattle.queue_run.specs.Results.{alike, device_fault}
use Rattle.queue_run.specs.Steps.{Exits, Loses}
use Rattle.queue_run.specs.Working.{Steps, bench}
use Rattle.queue_run.proofs.PutLemmas.{alike_long}
use Rattle.queue_run.proofs.WaitLemmas.{exit_ends, exit_runs, some_of}
use Rattle.queue_run.proofs.runner.Runner.wait.Goals as goal

pub finished-requires : goal.finished-requires
finished-requires g c = record { running = some_of c.args.self.now.running (λ (x : Running). IsRunningAt (g.S.Spawner.seen c.args.spawner.now) x.child) c.in-Some.running (sym c.take.ensures.value ∙ c.in-Some.is) c.requires.child }

pub put-requires-clause-agrees : goal.put-requires-clause-agrees
put-requires-clause-agrees g c = c.requires.agrees

pub put-requires-clause-whole : goal.put-requires-clause-whole
put-requires-clause-whole g c = c.requires.whole

pub put-requires-clause-reserved : goal.put-requires-clause-reserved
put-requires-clause-reserved g c = let a = some_of c.args.self.now.running (IsAttempt c.args.table.now c.requires.ready.held.entry (reverse c.args.self.now.rest.items)) c.in-Some.running (sym c.take.ensures.value ∙ c.in-Some.is) c.requires.ready.running in a.reserved

pub put-requires-clause-each : goal.put-requires-clause-each
put-requires-clause-each g c =
    let a = some_of c.args.self.now.running (IsAttempt c.args.table.now c.requires.ready.held.entry (reverse c.args.self.now.rest.items)) c.in-Some.running (sym c.take.ensures.value ∙ c.in-Some.is) c.requires.ready.running in
    ap length (c.fill_ended.ensures c.in-Some.running.reserved.rows a.each) ∙ alike_long _ c.in-Some.running.reserved.rows

pub put-requires-in-Err-clause-agrees : goal.put-requires-in-Err-clause-agrees
put-requires-in-Err-clause-agrees g c = c.requires.agrees

pub put-requires-in-Err-clause-whole : goal.put-requires-in-Err-clause-whole
put-requires-in-Err-clause-whole g c = c.requires.whole

pub put-requires-in-Err-clause-reserved : goal.put-requires-in-Err-clause-reserved
put-requires-in-Err-clause-reserved g c = let a = some_of c.args.self.now.running (IsAttempt c.args.table.now c.requires.ready.held.entry (reverse c.args.self.now.rest.items)) c.in-Some.running (sym c.take.ensures.value ∙ c.in-Some.is) c.requires.ready.running in a.reserved

pub put-requires-in-Err-clause-each : goal.put-requires-in-Err-clause-each
put-requires-in-Err-clause-each g c =
    let a = some_of c.args.self.now.running (IsAttempt c.args.table.now c.requires.ready.held.entry (reverse c.args.self.now.rest.items)) c.in-Some.running (sym c.take.ensures.value ∙ c.in-Some.is) c.requires.ready.running in
    ap length (c.fill_lost.ensures c.in-Some.running.reserved.rows a.each) ∙ alike_long _ c.in-Some.running.reserved.rows

pub returns-in-Ok-None : goal.returns-in-Ok-None
returns-in-Ok-None g c = record {
  steps = λ config maps entries d whole holds.
      let s = g.D.Spool.seen c.args.spool.now in
      let sp = g.S.Spawner.seen c.args.spawner.now in
      let sp' = g.S.Spawner.seen c.finished.new.self in
      let before = c.args.self.now in
      let run = c.in-Some.running in
      let is = sym c.take.ensures.value ∙ c.in-Some.is in
      let told = subst (λ q. Gains sp.told sp'.told (Polled run.child (poll_of q) ∷ [])) (c.in-Ok-None.is ∙ ap (λ q. Ok q) c.in-Ok-None.field-0-is) c.finished.ensures.told in
      subst (λ q. Steps (ground_of config maps c.args.moment) entries c.args.table.now c.args.table.now before q (bench s sp d) (bench s sp' d) (Ok did.Waits))
      (λ i. record { id = before.id; rest = before.rest; running = is i })
      (exit_runs (ground_of config maps c.args.moment) entries c.args.table.now c.args.table.now before run s s sp sp' d is c.requires.ready c.requires.child holds whole c.requires.agrees told c.in-Ok-None.ensures.calm);
}

pub returns-in-Ok-Some : goal.returns-in-Ok-Some
returns-in-Ok-Some g c = record {
  steps = λ config maps entries d whole holds.
      let s = g.D.Spool.seen c.args.spool.now in
      let s' = g.D.Spool.seen c.put.new.spool in
      let sp = g.S.Spawner.seen c.args.spawner.now in
      let sp' = g.S.Spawner.seen c.finished.new.self in
      let before = c.args.self.now in
      let run = c.in-Some.running in
      let status = c.in-Ok-Some.status in
      let fits : FitsSigned w32 status = search rules in
      let is = sym c.take.ensures.value ∙ c.in-Some.is in
      let a = some_of before.running (IsAttempt c.args.table.now c.requires.ready.held.entry (reverse before.rest.items)) run is c.requires.ready.running in
      let told = subst (λ q. Gains sp.told sp'.told (Polled run.child (poll_of q) ∷ [])) (c.in-Ok-Some.is ∙ ap (λ q. Ok q) c.in-Ok-Some.field-0-is) c.finished.ensures.told in
      subst (λ q. Steps (ground_of config maps c.args.moment) entries c.args.table.now c.put.new.table before q (bench s sp d) (bench s' sp' d) c.put.result)
      (λ i. record { id = before.id; rest = before.rest; running = sym c.take.ensures.after i })
      (exit_ends (ground_of config maps c.args.moment) entries c.args.table.now c.put.new.table before run s s' sp sp' d (polls.Over status) (ended_with status) _ c.args.moment c.put.result (λ failed. Exits status failed) tt
      (λ failed. refl) (λ failed. tt) (λ failed. tt) (λ failed. c.in-Ok-Some.ensures.calm) (λ failed. refl) c.finished.ensures.cause.later refl (c.fill_ended.ensures run.reserved.rows a.each ∙ ap (λ q. alike (ended_with q) run.reserved.rows) (to_z-of_z w32 status fits)) is c.requires.ready holds whole told c.put.ensures.put c.put.ensures.entries);
}

pub returns-in-Err : goal.returns-in-Err
returns-in-Err g c = record {
  steps = λ config maps entries d whole holds.
      let s = g.D.Spool.seen c.args.spool.now in
      let s' = g.D.Spool.seen c.put-in-Err.new.spool in
      let sp = g.S.Spawner.seen c.args.spawner.now in
      let sp' = g.S.Spawner.seen c.finished.new.self in
      let before = c.args.self.now in
      let run = c.in-Some.running in
      let is = sym c.take.ensures.value ∙ c.in-Some.is in
      let a = some_of before.running (IsAttempt c.args.table.now c.requires.ready.held.entry (reverse before.rest.items)) run is c.requires.ready.running in
      let told = subst (λ q. Gains sp.told sp'.told (Polled run.child (poll_of q) ∷ [])) c.in-Err.is c.finished.ensures.told in
      subst (λ q. Steps (ground_of config maps c.args.moment) entries c.args.table.now c.put-in-Err.new.table before q (bench s sp d) (bench s' sp' d) c.put-in-Err.result)
      (λ i. record { id = before.id; rest = before.rest; running = sym c.take.ensures.after i })
      (exit_ends (ground_of config maps c.args.moment) entries c.args.table.now c.put-in-Err.new.table before run s s' sp sp' d polls.Lost device_fault _ c.args.moment c.put-in-Err.result (λ failed. Loses failed) tt
      (λ failed. refl) (λ failed. tt) (λ failed. tt) (λ failed. c.in-Err.ensures.cause.failed) (λ failed. refl) c.finished.ensures.cause.later refl (c.fill_lost.ensures run.reserved.rows a.each) is c.requires.ready holds whole told c.put-in-Err.ensures.put c.put-in-Err.ensures.entries);
}
