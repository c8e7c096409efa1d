-- The exits of a delivery to peers.
use Rattle.std.proofs.Common.{◌≡◌, ◌∙◌, Err, ap, sym, subst, refl, length, reverse, rules}
use Rattle.std.specs.Prelude.{IfSome, false}
use Rattle.std.proofs.lemmas.Result.{err_from_is_err_and}
use Rattle.mailer_smtp.specs.declared.letter.Letter.{Letter as Mail}
use Rattle.spool_store.proofs.OpenLemmas.{reads_told}
use Rattle.spool_store.specs.Stores.{Agrees}
use Rattle.queue_table.specs.Calls.{store}
use Rattle.queue_run.specs.declared.runner.Runner.{Runner}
use Rattle.queue_run.specs.declared.runner.RunStop.TheVariants.{NoMemory}
use Rattle.queue_run.specs.Kinds.{Talks}
use Rattle.queue_run.specs.Meant.{IsLetter, ground_of}
use Rattle.queue_run.specs.Working.{Steps, bench, kind_in}
use Rattle.queue_run.specs.Handovers.{mail_of}
use Rattle.queue_run.specs.Holders.{holder_of}
use Rattle.queue_run.specs.inner.Puts.{IsPutOrNot}
use Rattle.queue_run.proofs.LetterLemmas.{exit_outgrown, exit_unhanded, handed_for, talks_lettered}
use Rattle.queue_run.proofs.PutLemmas.{can_reserve, put_as, turned}
use Rattle.queue_run.proofs.SettleLemmas.{exit_memory, first_is, rests}
use Rattle.queue_run.proofs.StepLemmas.{reads_itself}
use Rattle.queue_run.proofs.TalkLemmas.{exit_talked, first_users}
use Rattle.queue_run.proofs.runner.Runner.talk.Goals as goal

pub reserve-requires : goal.reserve-requires
reserve-requires g c = record { can = can_reserve c.args.table.now c.args.self.now c.requires.ready c.in-Some.batch (reverse c.pop.new.self.items) (turned c.args.self.now.rest.items c.pop.new.self.items c.in-Some.batch c.in-Some.ensures.items) }

pub returns-in_err-host : goal.returns-in_err-host
returns-in_err-host g c = record {
  steps = λ entries spawner batch whole holds first kind.
      let G = ground_of c.args.config.now c.args.maps.now c.args.moment in
      let s = g.D.Spool.seen c.args.spool.now in
      let d = g.N.Dialer.seen c.args.dialer.now in
      let before = c.args.self.now in
      let now : Runner = record { id = before.id; rest = c.pop.new.self; running = before.running } in
      let e : c.from_residual.result ≡ Err NoMemory = search rules in
      subst (λ q. Steps G entries c.args.table.now c.args.table.now before now (bench s spawner d) (bench s spawner d) q) (sym e)
      (exit_memory G entries c.args.table.now c.args.table.now before now s s spawner d (Talks batch c.args.mailer.now c.args.peers.now) kind refl (reads_itself s) refl);
}

pub returns-in_err-letter : goal.returns-in_err-letter
returns-in_err-letter g c = record {
  steps = λ entries spawner batch whole holds first kind.
      let G = ground_of c.args.config.now c.args.maps.now c.args.moment in
      let s = g.D.Spool.seen c.args.spool.now in
      let m = g.D.Spool.seen c.hand.new.spool in
      let d = g.N.Dialer.seen c.args.dialer.now in
      let before = c.args.self.now in
      let now : Runner = record { id = before.id; rest = c.pop.new.self; running = before.running } in
      let e : c.from_residual-in_err-letter.result ≡ Err c.in_err-letter.field-0.0 = search rules in
      subst (λ q. Steps G entries c.args.table.now c.args.table.now before now (bench s spawner d) (bench m spawner d) q) (sym e)
      (exit_unhanded G entries c.args.table.now c.args.table.now before now (Talks batch c.args.mailer.now c.args.peers.now) batch c.args.mailer.now (talks_lettered G entries before batch c.args.mailer.now c.args.peers.now) s m m spawner d c.in_err-letter.field-0.0 kind c.hand.ensures.reads c.hand.ensures.later c.in_err-letter.ensures.fault);
}

pub put_alike-requires-clause-agrees : goal.put_alike-requires-clause-agrees
put_alike-requires-clause-agrees g c = subst (λ q. (store c.args.table.now).broken ≡ false → IfSome q (Agrees (store c.args.table.now))) (sym (reads_told (g.D.Spool.seen c.args.spool.now) (g.D.Spool.seen c.hand.new.spool) c.hand.ensures.reads)) c.requires.agrees

pub put_alike-requires-clause-can : goal.put_alike-requires-clause-can
put_alike-requires-clause-can g c = can_reserve c.args.table.now c.args.self.now c.requires.ready c.in-Some.batch (reverse c.pop.new.self.items) (turned c.args.self.now.rest.items c.pop.new.self.items c.in-Some.batch c.in-Some.ensures.items)

pub returns-then-is_large : goal.returns-then-is_large
returns-then-is_large g c = record {
  steps = λ entries spawner batch whole holds first kind.
      let G = ground_of c.args.config.now c.args.maps.now c.args.moment in
      let s = g.D.Spool.seen c.args.spool.now in
      let m = g.D.Spool.seen c.hand.new.spool in
      let s' = g.D.Spool.seen c.put_alike.new.spool in
      let d = g.N.Dialer.seen c.args.dialer.now in
      let before = c.args.self.now in
      let now : Runner = record { id = before.id; rest = c.pop.new.self; running = before.running } in
      let mine = c.in-Some.batch in
      let mailer = c.args.mailer.now in
      let peers = c.args.peers.now in
      let ready = c.requires.ready in
      let letter = c.in_ok-letter.letter in
      let same : batch ≡ mine = first_is before.rest.items c.pop.new.self.items mine batch c.in-Some.ensures.items first in
      let kind' : kind_in G entries (holder_of before) ≡ Talks mine mailer peers = subst (λ q. kind_in G entries (holder_of before) ≡ Talks q mailer peers) same kind in
      let handed = handed_for G entries c.args.table.now before (Talks mine mailer peers) mine mailer s m letter (talks_lettered G entries before mine mailer peers) holds ready
      (λ h among own. subst (λ q. IsLetter G before.id h.entry.control mailer q letter) c.in_ok-host.ensures (c.in_ok-letter.ensures.is h among own))
      c.in_ok-letter.ensures.body c.hand.ensures.reads c.in_ok-letter.ensures.fault in
      exit_outgrown G entries c.args.table.now c.put_alike.new.table before now (Talks mine mailer peers) mine mailer (talks_lettered G entries before mine mailer peers) s m s' spawner d letter c.args.moment c.put_alike.result ready kind' (sym c.is_large.ensures ∙ c.if-is_large.true) handed refl
      (record { id = refl; split = c.in-Some.ensures.items; running = rests G entries before (Talks mine mailer peers) kind' tt }) holds whole
      (subst (λ q. IsPutOrNot c.args.table.now c.put_alike.new.table before.id mine.places q c.args.moment ready.held.entry.control c.put_alike.result m s') c.too_large-one.ensures
      (c.put_alike.ensures.put ready.held ready.among ready.is))
      (λ e. ap g.D.Spool.seen (c.put_alike.ensures.none e));
}

pub returns-in_err-reserved : goal.returns-in_err-reserved
returns-in_err-reserved g c = record {
  steps = λ entries spawner batch whole holds first kind.
      let G = ground_of c.args.config.now c.args.maps.now c.args.moment in
      let s = g.D.Spool.seen c.args.spool.now in
      let m = g.D.Spool.seen c.hand.new.spool in
      let d = g.N.Dialer.seen c.args.dialer.now in
      let before = c.args.self.now in
      let now : Runner = record { id = before.id; rest = c.pop.new.self; running = before.running } in
      let e : c.from_residual-in_err-reserved.result ≡ Err NoMemory = search rules in
      subst (λ q. Steps G entries c.args.table.now c.args.table.now before now (bench s spawner d) (bench m spawner d) q) (sym e)
      (exit_memory G entries c.args.table.now c.args.table.now before now s m spawner d (Talks batch c.args.mailer.now c.args.peers.now) kind refl c.hand.ensures.reads c.in_ok-letter.ensures.fault);
}

pub mail_for-requires : goal.mail_for-requires
mail_for-requires g c = record { entry = record { held = c.requires.ready.held; among = c.requires.ready.among; is = c.requires.ready.is } }

pub returns-in_err-mail : goal.returns-in_err-mail
returns-in_err-mail g c = record {
  steps = λ entries spawner batch whole holds first kind.
      let G = ground_of c.args.config.now c.args.maps.now c.args.moment in
      let s = g.D.Spool.seen c.args.spool.now in
      let m = g.D.Spool.seen c.hand.new.spool in
      let d = g.N.Dialer.seen c.args.dialer.now in
      let before = c.args.self.now in
      let now : Runner = record { id = before.id; rest = c.pop.new.self; running = before.running } in
      let e : c.from_residual-in_err-mail.result ≡ Err NoMemory = search rules in
      subst (λ q. Steps G entries c.args.table.now c.args.table.now before now (bench s spawner d) (bench m spawner d) q) (sym e)
      (exit_memory G entries c.args.table.now c.args.table.now before now s m spawner d (Talks batch c.args.mailer.now c.args.peers.now) kind refl c.hand.ensures.reads c.in_ok-letter.ensures.fault);
}

pub returns-in_err-outcomes : goal.returns-in_err-outcomes
returns-in_err-outcomes g c = record {
  steps = λ entries spawner batch whole holds first kind.
      let G = ground_of c.args.config.now c.args.maps.now c.args.moment in
      let s = g.D.Spool.seen c.args.spool.now in
      let m = g.D.Spool.seen c.hand.new.spool in
      let d = g.N.Dialer.seen c.args.dialer.now in
      let before = c.args.self.now in
      let now : Runner = record { id = before.id; rest = c.pop.new.self; running = before.running } in
      let p = err_from_is_err_and c.from_residual-in_err-outcomes.result c.from_residual-in_err-outcomes.ensures.1 in
      let e : c.from_residual-in_err-outcomes.result ≡ Err NoMemory = p.1 ∙ ap (λ q. Err q) p.2 in
      let same : g.N.Dialer.seen c.hand_over.new.dialer ≡ d = c.in_err-outcomes.ensures.none in
      subst (λ q. Steps G entries c.args.table.now c.args.table.now before now (bench s spawner d) (bench m spawner q) c.from_residual-in_err-outcomes.result) (sym same)
      (subst (λ q. Steps G entries c.args.table.now c.args.table.now before now (bench s spawner d) (bench m spawner d) q) (sym e)
      (exit_memory G entries c.args.table.now c.args.table.now before now s m spawner d (Talks batch c.args.mailer.now c.args.peers.now) kind refl c.hand.ensures.reads c.in_ok-letter.ensures.fault));
}

pub put-requires-clause-agrees : goal.put-requires-clause-agrees
put-requires-clause-agrees g c = subst (λ q. (store c.args.table.now).broken ≡ false → IfSome q (Agrees (store c.args.table.now))) (sym (reads_told (g.D.Spool.seen c.args.spool.now) (g.D.Spool.seen c.hand.new.spool) c.hand.ensures.reads)) c.requires.agrees

pub put-requires-clause-each : goal.put-requires-clause-each
put-requires-clause-each g c =
    let ready = c.requires.ready in
    let mine = c.in-Some.batch in
    c.in_ok-outcomes.ensures.each
    ∙ ap (λ (q : Mail). length q.users) (c.in_ok-mail.ensures.is ready.held ready.among ready.is)
    ∙ ap length c.into_users-users.ensures
    ∙ first_users c.args.table.now c.args.self.now ready mine (reverse c.pop.new.self.items) (turned c.args.self.now.rest.items c.pop.new.self.items mine c.in-Some.ensures.items)
    ∙ ap length (sym c.in_ok-reserved.ensures.rows)

pub returns : goal.returns
returns g c = record {
  steps = λ entries spawner batch whole holds first kind.
      let G = ground_of c.args.config.now c.args.maps.now c.args.moment in
      let s = g.D.Spool.seen c.args.spool.now in
      let m = g.D.Spool.seen c.hand.new.spool in
      let s' = g.D.Spool.seen c.put.new.spool in
      let d = g.N.Dialer.seen c.args.dialer.now in
      let d' = g.N.Dialer.seen c.hand_over.new.dialer in
      let before = c.args.self.now in
      let now : Runner = record { id = before.id; rest = c.pop.new.self; running = before.running } in
      let mine = c.in-Some.batch in
      let mailer = c.args.mailer.now in
      let peers = c.args.peers.now in
      let ready = c.requires.ready in
      let letter = c.in_ok-letter.letter in
      let mail = c.in_ok-mail.mail in
      let results = c.in_ok-outcomes.outcomes.results in
      let r = c.in_ok-reserved.reserved in
      let known = c.in_ok-reserved.ensures in
      let same : batch ≡ mine = first_is before.rest.items c.pop.new.self.items mine batch c.in-Some.ensures.items first in
      let kind' : kind_in G entries (holder_of before) ≡ Talks mine mailer peers = subst (λ q. kind_in G entries (holder_of before) ≡ Talks q mailer peers) same kind in
      let handed = handed_for G entries c.args.table.now before (Talks mine mailer peers) mine mailer s m letter (talks_lettered G entries before mine mailer peers) holds ready
      (λ h among own. subst (λ q. IsLetter G before.id h.entry.control mailer q letter) c.in_ok-host.ensures (c.in_ok-letter.ensures.is h among own))
      c.in_ok-letter.ensures.body c.hand.ensures.reads c.in_ok-letter.ensures.fault in
      exit_talked G entries c.args.table.now c.put.new.table before now mine mailer peers s m s' spawner d d' letter mail results c.args.moment c.put.result ready kind' (sym c.is_large.ensures ∙ c.if-is_large.false) handed refl
      (record { id = refl; split = c.in-Some.ensures.items; running = rests G entries before (Talks mine mailer peers) kind' tt }) holds whole
      (λ h among own. c.in_ok-mail.ensures.is h among own ∙ ap (λ q. mail_of c.args.config.now h.entry.control q letter) c.into_users-users.ensures)
      c.in_ok-outcomes.ensures.delivered
      c.in_ok-outcomes.ensures.each
      (put_as c.args.table.now c.put.new.table before.id mine.places results c.args.moment ready.held.entry.control c.put.result m s' r known.id known.rows (known.control ready.held ready.among ready.is) c.put.ensures.put c.put.ensures.entries);
}
