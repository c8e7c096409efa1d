-- The exits of a start.
use Rattle.std.proofs.Common.{◌≡◌, ◌∙◌, Some, Err, ap, sym, subst, refl, reverse, rules}
use Rattle.std.specs.Prelude.{IfSome, false}
use Rattle.mailer_pipe.specs.Starts.{Begins, start_of}
use Rattle.spool_store.proofs.OpenLemmas.{reads_told}
use Rattle.spool_store.specs.Stores.{Agrees}
use Rattle.queue_table.specs.Calls.{store}
use Rattle.queue_run.specs.declared.runner.Runner.{Runner}
use Rattle.queue_run.specs.declared.runner.Running.{Running}
use Rattle.queue_run.specs.declared.runner.RunStop.TheVariants.{NoMemory}
use Rattle.queue_run.specs.Kinds.{Starts}
use Rattle.queue_run.specs.Meant.{IsLetter, ground_of}
use Rattle.queue_run.specs.Results.{alike, device_fault}
use Rattle.queue_run.specs.Working.{Steps, bench, kind_in}
use Rattle.queue_run.specs.Holders.{holder_of}
use Rattle.queue_run.specs.inner.Puts.{IsPutOrNot}
use Rattle.queue_run.proofs.PutLemmas.{can_reserve, put_alike_as, turned}
use Rattle.queue_run.proofs.SettleLemmas.{exit_memory, first_is, rests}
use Rattle.queue_run.proofs.StepLemmas.{reads_itself}
use Rattle.queue_run.proofs.LetterLemmas.{exit_outgrown, exit_unhanded, handed_for, starts_lettered}
use Rattle.queue_run.proofs.StartLemmas.{exit_begun, exit_starved, exit_unbegun}
use Rattle.queue_run.proofs.runner.Runner.start.Goals as goal

pub reserve-requires : goal.reserve-requires
reserve-requires g c = record { can = can_reserve c.args.table.now c.args.self.now c.requires.ready c.in-Some.batch (reverse c.pop.new.self.items) (turned c.args.self.now.rest.items c.pop.new.self.items c.in-Some.batch c.in-Some.ensures.items) }

pub returns-in_err-host : goal.returns-in_err-host
returns-in_err-host g c = record {
  steps = λ entries dialer batch whole holds first kind.
      let s = g.D.Spool.seen c.args.spool.now in
      let before = c.args.self.now in
      let now : Runner = record { id = before.id; rest = c.pop.new.self; running = before.running } in
      let e : c.from_residual.result ≡ Err NoMemory = search rules in
      subst (λ q. Steps (ground_of c.args.config.now c.args.maps.now c.args.moment) entries c.args.table.now c.args.table.now before now (bench s (g.S.Spawner.seen c.args.spawner.now) dialer) (bench s (g.S.Spawner.seen c.args.spawner.now) dialer) q) (sym e)
      (exit_memory (ground_of c.args.config.now c.args.maps.now c.args.moment) entries c.args.table.now c.args.table.now before now s s (g.S.Spawner.seen c.args.spawner.now) dialer (Starts batch c.args.mailer.now) kind refl (reads_itself s) refl);
}

pub returns-in_err-letter : goal.returns-in_err-letter
returns-in_err-letter g c = record {
  steps = λ entries dialer batch whole holds first kind.
      let s = g.D.Spool.seen c.args.spool.now in
      let m = g.D.Spool.seen c.hand.new.spool in
      let sp = g.S.Spawner.seen c.args.spawner.now in
      let before = c.args.self.now in
      let now : Runner = record { id = before.id; rest = c.pop.new.self; running = before.running } in
      let e : c.from_residual-in_err-letter.result ≡ Err c.in_err-letter.field-0.0 = search rules in
      subst (λ q. Steps (ground_of c.args.config.now c.args.maps.now c.args.moment) entries c.args.table.now c.args.table.now before now (bench s sp dialer) (bench m sp dialer) q) (sym e)
      (exit_unhanded (ground_of c.args.config.now c.args.maps.now c.args.moment) entries c.args.table.now c.args.table.now before now (Starts batch c.args.mailer.now) batch c.args.mailer.now (starts_lettered (ground_of c.args.config.now c.args.maps.now c.args.moment) entries before batch c.args.mailer.now) s m m sp dialer c.in_err-letter.field-0.0 kind c.hand.ensures.reads c.hand.ensures.later c.in_err-letter.ensures.fault);
}

pub put_alike-requires-clause-agrees : goal.put_alike-requires-clause-agrees
put_alike-requires-clause-agrees g c = subst (λ q. (store c.args.table.now).broken ≡ false → IfSome q (Agrees (store c.args.table.now))) (sym (reads_told (g.D.Spool.seen c.args.spool.now) (g.D.Spool.seen c.hand.new.spool) c.hand.ensures.reads)) c.requires.agrees

pub put_alike-requires-clause-can : goal.put_alike-requires-clause-can
put_alike-requires-clause-can g c = can_reserve c.args.table.now c.args.self.now c.requires.ready c.in-Some.batch (reverse c.pop.new.self.items) (turned c.args.self.now.rest.items c.pop.new.self.items c.in-Some.batch c.in-Some.ensures.items)

pub returns-then-is_large : goal.returns-then-is_large
returns-then-is_large g c = record {
  steps = λ entries dialer batch whole holds first kind.
      let G = ground_of c.args.config.now c.args.maps.now c.args.moment in
      let s = g.D.Spool.seen c.args.spool.now in
      let m = g.D.Spool.seen c.hand.new.spool in
      let s' = g.D.Spool.seen c.put_alike.new.spool in
      let sp = g.S.Spawner.seen c.args.spawner.now in
      let before = c.args.self.now in
      let now : Runner = record { id = before.id; rest = c.pop.new.self; running = before.running } in
      let mine = c.in-Some.batch in
      let mailer = c.args.mailer.now in
      let ready = c.requires.ready in
      let letter = c.in_ok-letter.letter in
      let same : batch ≡ mine = first_is before.rest.items c.pop.new.self.items mine batch c.in-Some.ensures.items first in
      let kind' : kind_in G entries (holder_of before) ≡ Starts mine mailer = subst (λ q. kind_in G entries (holder_of before) ≡ Starts q mailer) same kind in
      let handed = handed_for G entries c.args.table.now before (Starts mine mailer) mine mailer s m letter (starts_lettered G entries before mine mailer) holds ready
      (λ h among own. subst (λ q. IsLetter G before.id h.entry.control mailer q letter) c.in_ok-host.ensures (c.in_ok-letter.ensures.is h among own))
      c.in_ok-letter.ensures.body c.hand.ensures.reads c.in_ok-letter.ensures.fault in
      exit_outgrown G entries c.args.table.now c.put_alike.new.table before now (Starts mine mailer) mine mailer (starts_lettered G entries before mine mailer) s m s' sp dialer letter c.args.moment c.put_alike.result ready kind' (sym c.is_large.ensures ∙ c.if-is_large.true) handed refl
      (record { id = refl; split = c.in-Some.ensures.items; running = rests G entries before (Starts mine mailer) kind' tt }) holds whole
      (subst (λ q. IsPutOrNot c.args.table.now c.put_alike.new.table before.id mine.places q c.args.moment ready.held.entry.control c.put_alike.result m s') c.too_large-one.ensures
      (c.put_alike.ensures.put ready.held ready.among ready.is))
      (λ e. ap g.D.Spool.seen (c.put_alike.ensures.none e));
}

pub returns-in_err-outcomes : goal.returns-in_err-outcomes
returns-in_err-outcomes g c = record {
  steps = λ entries dialer batch whole holds first kind.
      let s = g.D.Spool.seen c.args.spool.now in
      let m = g.D.Spool.seen c.hand.new.spool in
      let sp = g.S.Spawner.seen c.args.spawner.now in
      let before = c.args.self.now in
      let now : Runner = record { id = before.id; rest = c.pop.new.self; running = before.running } in
      let e : c.from_residual-in_err-outcomes.result ≡ Err NoMemory = search rules in
      subst (λ q. Steps (ground_of c.args.config.now c.args.maps.now c.args.moment) entries c.args.table.now c.args.table.now before now (bench s sp dialer) (bench m sp dialer) q) (sym e)
      (exit_memory (ground_of c.args.config.now c.args.maps.now c.args.moment) entries c.args.table.now c.args.table.now before now s m sp dialer (Starts batch c.args.mailer.now) kind refl c.hand.ensures.reads c.in_ok-letter.ensures.fault);
}

pub returns-in_err-reserved : goal.returns-in_err-reserved
returns-in_err-reserved g c = record {
  steps = λ entries dialer batch whole holds first kind.
      let s = g.D.Spool.seen c.args.spool.now in
      let m = g.D.Spool.seen c.hand.new.spool in
      let sp = g.S.Spawner.seen c.args.spawner.now in
      let before = c.args.self.now in
      let now : Runner = record { id = before.id; rest = c.pop.new.self; running = before.running } in
      let e : c.from_residual-in_err-reserved.result ≡ Err NoMemory = search rules in
      subst (λ q. Steps (ground_of c.args.config.now c.args.maps.now c.args.moment) entries c.args.table.now c.args.table.now before now (bench s sp dialer) (bench m sp dialer) q) (sym e)
      (exit_memory (ground_of c.args.config.now c.args.maps.now c.args.moment) entries c.args.table.now c.args.table.now before now s m sp dialer (Starts batch c.args.mailer.now) kind refl c.hand.ensures.reads c.in_ok-letter.ensures.fault);
}

pub returns-in-Ok : goal.returns-in-Ok
returns-in-Ok g c = record {
  steps = λ entries dialer batch whole holds first kind.
      let G = ground_of c.args.config.now c.args.maps.now c.args.moment in
      let s = g.D.Spool.seen c.args.spool.now in
      let m = g.D.Spool.seen c.hand.new.spool in
      let sp = g.S.Spawner.seen c.args.spawner.now in
      let sp' = g.S.Spawner.seen c.begin.new.spawner in
      let before = c.args.self.now in
      let mine = c.in-Some.batch in
      let mailer = c.args.mailer.now in
      let ready = c.requires.ready in
      let letter = c.in_ok-letter.letter in
      let r = c.in_ok-reserved.reserved in
      let known = c.in_ok-reserved.ensures in
      let same : batch ≡ mine = first_is before.rest.items c.pop.new.self.items mine batch c.in-Some.ensures.items first in
      let kind' : kind_in G entries (holder_of before) ≡ Starts mine mailer = subst (λ q. kind_in G entries (holder_of before) ≡ Starts q mailer) same kind in
      let handed = handed_for G entries c.args.table.now before (Starts mine mailer) mine mailer s m letter (starts_lettered G entries before mine mailer) holds ready
      (λ h among own. subst (λ q. IsLetter G before.id h.entry.control mailer q letter) c.in_ok-host.ensures (c.in_ok-letter.ensures.is h among own))
      c.in_ok-letter.ensures.body c.hand.ensures.reads c.in_ok-letter.ensures.fault in
      let results : c.in_ok-outcomes.outcomes.results ≡ alike device_fault mine.places = c.in_ok-outcomes.ensures ∙ ap (λ q. alike q c.items.result.now) c.device_fault.ensures ∙ ap (alike device_fault) c.items.ensures in
      let run : Running = record { child = c.in-Ok.child; reserved = r; outcomes = c.in_ok-outcomes.outcomes } in
      let now : Runner = record { id = before.id; rest = c.pop.new.self; running = Some run } in
      exit_begun G entries c.args.table.now c.args.table.now before now mine mailer s m m sp sp' dialer letter c.in-Ok.child run ready kind' (sym c.is_large.ensures ∙ c.if-is_large.false) handed holds whole c.requires.agrees
      refl c.in-Some.ensures.items refl (rests G entries before (Starts mine mailer) kind' tt)
      refl known.rows known.id (known.control ready.held ready.among ready.is) known.is results c.in-Ok.ensures.begins;
}

pub put-requires-clause-agrees : goal.put-requires-clause-agrees
put-requires-clause-agrees g c = subst (λ q. (store c.args.table.now).broken ≡ false → IfSome q (Agrees (store c.args.table.now))) (sym (reads_told (g.D.Spool.seen c.args.spool.now) (g.D.Spool.seen c.hand.new.spool) c.hand.ensures.reads)) c.requires.agrees

pub returns-in-Err-DeviceFault : goal.returns-in-Err-DeviceFault
returns-in-Err-DeviceFault g c = record {
  steps = λ entries dialer batch whole holds first kind.
      let G = ground_of c.args.config.now c.args.maps.now c.args.moment in
      let s = g.D.Spool.seen c.args.spool.now in
      let m = g.D.Spool.seen c.hand.new.spool in
      let sp = g.S.Spawner.seen c.args.spawner.now in
      let sp' = g.S.Spawner.seen c.begin.new.spawner in
      let before = c.args.self.now in
      let mine = c.in-Some.batch in
      let mailer = c.args.mailer.now in
      let ready = c.requires.ready in
      let letter = c.in_ok-letter.letter in
      let r = c.in_ok-reserved.reserved in
      let known = c.in_ok-reserved.ensures in
      let same : batch ≡ mine = first_is before.rest.items c.pop.new.self.items mine batch c.in-Some.ensures.items first in
      let kind' : kind_in G entries (holder_of before) ≡ Starts mine mailer = subst (λ q. kind_in G entries (holder_of before) ≡ Starts q mailer) same kind in
      let handed = handed_for G entries c.args.table.now before (Starts mine mailer) mine mailer s m letter (starts_lettered G entries before mine mailer) holds ready
      (λ h among own. subst (λ q. IsLetter G before.id h.entry.control mailer q letter) c.in_ok-host.ensures (c.in_ok-letter.ensures.is h among own))
      c.in_ok-letter.ensures.body c.hand.ensures.reads c.in_ok-letter.ensures.fault in
      let results : c.in_ok-outcomes.outcomes.results ≡ alike device_fault mine.places = c.in_ok-outcomes.ensures ∙ ap (λ q. alike q c.items.result.now) c.device_fault.ensures ∙ ap (alike device_fault) c.items.ensures in
      let s' = g.D.Spool.seen c.put.new.spool in
      let now : Runner = record { id = before.id; rest = c.pop.new.self; running = before.running } in
      exit_unbegun G entries c.args.table.now c.put.new.table before now mine mailer s m s' sp sp' dialer letter c.args.moment c.put.result ready kind' (sym c.is_large.ensures ∙ c.if-is_large.false) handed refl
      (record { id = refl; split = c.in-Some.ensures.items; running = rests G entries before (Starts mine mailer) kind' tt }) holds whole
      (subst (Begins (start_of mailer letter.macros mine.users letter.text) sp sp') (c.in-Err-DeviceFault.is ∙ ap (λ q. Err q) c.in-Err-DeviceFault.field-0-is) c.begin.ensures.begins)
      (put_alike_as c.args.table.now c.put.new.table before.id mine.places device_fault c.in_ok-outcomes.outcomes.results c.args.moment ready.held.entry.control c.put.result m s' r known.id known.rows (known.control ready.held ready.among ready.is) results c.put.ensures.put c.put.ensures.entries);
}

pub returns : goal.returns
returns g c = record {
  steps = λ entries dialer batch whole holds first kind.
      let G = ground_of c.args.config.now c.args.maps.now c.args.moment in
      let s = g.D.Spool.seen c.args.spool.now in
      let m = g.D.Spool.seen c.hand.new.spool in
      let sp = g.S.Spawner.seen c.args.spawner.now in
      let sp' = g.S.Spawner.seen c.begin.new.spawner in
      let before = c.args.self.now in
      let mine = c.in-Some.batch in
      let mailer = c.args.mailer.now in
      let ready = c.requires.ready in
      let letter = c.in_ok-letter.letter in
      let same : batch ≡ mine = first_is before.rest.items c.pop.new.self.items mine batch c.in-Some.ensures.items first in
      let kind' : kind_in G entries (holder_of before) ≡ Starts mine mailer = subst (λ q. kind_in G entries (holder_of before) ≡ Starts q mailer) same kind in
      let handed = handed_for G entries c.args.table.now before (Starts mine mailer) mine mailer s m letter (starts_lettered G entries before mine mailer) holds ready
      (λ h among own. subst (λ q. IsLetter G before.id h.entry.control mailer q letter) c.in_ok-host.ensures (c.in_ok-letter.ensures.is h among own))
      c.in_ok-letter.ensures.body c.hand.ensures.reads c.in_ok-letter.ensures.fault in
      let now : Runner = record { id = before.id; rest = c.pop.new.self; running = before.running } in
      exit_starved G entries c.args.table.now c.args.table.now before now mine mailer s m m sp sp' dialer letter kind' handed (subst (Begins (start_of mailer letter.macros mine.users letter.text) sp sp') (c.in-Err-NoMemory.is ∙ ap (λ q. Err q) c.in-Err-NoMemory.field-0-is) c.begin.ensures.begins);
}
