-- What is asked of a bounce, of dead rows, a warning and a finish, and the ways out.
use Rattle.std.proofs.Common.{◌≡◌, ◌∙◌, Ok, refl, sym, subst, Contains, true, false}
use Rattle.mail_base.specs.States.{has_failed, is_finished, wants_bounce}
use Rattle.spool_store.specs.Entries.{Table as Entries}
use Rattle.spool_store.specs.Keepers.{seen}
use Rattle.queue_table.specs.Calls.{HoldsTable}
use Rattle.queue_run.specs.declared.runner.Did.TheVariants.{Free}
use Rattle.queue_run.specs.Backs.{drawer}
use Rattle.queue_run.specs.Holders.{holder_of}
use Rattle.queue_run.specs.Kinds.{Buries, Finishes, Leaves, is_warning_due}
use Rattle.queue_run.specs.Meant.{ground_of}
use Rattle.queue_run.specs.Working.{bench, kind_in}
use Rattle.queue_run.proofs.AimLemmas.{due_queued, end_buries, end_by, end_returns, end_warns}
use Rattle.queue_run.proofs.AskingLemmas.{holds_by, table_by}
use Rattle.queue_run.proofs.AttemptLemmas.{closing}
use Rattle.queue_run.proofs.DrawLemmas.{DrawsNone, no_dialer, no_spawner, steps_any, undrawn}
use Rattle.queue_run.proofs.FinishLemmas.{exit_leaves}
use Rattle.queue_run.proofs.runner.Runner.close.Goals as goal

pub give_back-requires-clause-failed : goal.give_back-requires-clause-failed
give_back-requires-clause-failed g c = λ h among is. subst (λ q. has_failed q.control ≡ true) (c.entry.ensures.is h (subst (λ q. Contains (seen q).entries h) (sym c.queue.ensures) among) is) (sym c.if-has_failed.ensures)

pub give_back-requires-clause-single : goal.give_back-requires-clause-single
give_back-requires-clause-single g c = λ h among is. subst (λ q. wants_bounce q.control ≡ true) (c.entry.ensures.is h (subst (λ q. Contains (seen q).entries h) (sym c.queue.ensures) among) is) (sym c.if-wants_bounce.ensures)

pub returns-then-wants_bounce : goal.returns-then-wants_bounce
returns-then-wants_bounce g c = record {
  steps = λ entries spawner dialer holds.
      let t = closing (ground_of c.args.config.now c.args.maps.now c.args.moment) entries c.args.table.now c.args.self.now holds c.requires.ready c.requires.running c.requires.rest in
      c.give_back.ensures.steps entries spawner dialer c.requires.whole holds
      (t.kind ∙ end_returns c.args.config.now c.args.moment t.held.entry.control (subst (λ q. has_failed q.control ≡ true) (c.entry.ensures.is t.held (subst (λ q. Contains (seen q).entries t.held) (sym c.queue.ensures) t.among) t.is) (sym c.if-has_failed.ensures)) (subst (λ q. wants_bounce q.control ≡ true) (c.entry.ensures.is t.held (subst (λ q. Contains (seen q).entries t.held) (sym c.queue.ensures) t.among) t.is) (sym c.if-wants_bounce.ensures)));
  drawn = c.give_back.ensures.drawn;
  fixed = c.give_back.ensures.fixed;
}

pub bury-requires-clause-failed : goal.bury-requires-clause-failed
bury-requires-clause-failed g c = λ h among is. subst (λ q. has_failed q.control ≡ true) (c.entry.ensures.is h (subst (λ q. Contains (seen q).entries h) (sym c.queue.ensures) among) is) (sym c.if-has_failed.ensures)

pub bury-requires-clause-double : goal.bury-requires-clause-double
bury-requires-clause-double g c = λ h among is. subst (λ q. wants_bounce q.control ≡ false) (c.entry.ensures.is h (subst (λ q. Contains (seen q).entries h) (sym c.queue.ensures) among) is) (sym c.if-wants_bounce.ensures)

pub returns-then-has_failed : goal.returns-then-has_failed
returns-then-has_failed g c =
    let kind : (entries : Entries) → HoldsTable c.args.table.now entries → kind_in (ground_of c.args.config.now c.args.maps.now c.args.moment) entries (holder_of c.args.self.now) ≡ Buries = λ entries holds.
    let t = closing (ground_of c.args.config.now c.args.maps.now c.args.moment) entries c.args.table.now c.args.self.now holds c.requires.ready c.requires.running c.requires.rest in
    t.kind ∙ end_buries c.args.config.now c.args.moment t.held.entry.control (subst (λ q. has_failed q.control ≡ true) (c.entry.ensures.is t.held (subst (λ q. Contains (seen q).entries t.held) (sym c.queue.ensures) t.among) t.is) (sym c.if-has_failed.ensures)) (subst (λ q. wants_bounce q.control ≡ false) (c.entry.ensures.is t.held (subst (λ q. Contains (seen q).entries t.held) (sym c.queue.ensures) t.among) t.is) (sym c.if-wants_bounce.ensures)) in record {
      steps = λ entries spawner dialer holds. steps_any c.args.config.now c.args.maps.now c.args.moment (drawer (g.W.Draws.seen c.args.draws.now) (g.W.Draws.answers c.args.draws.now)) entries c.args.table.now c.bury.new.table c.args.self.now c.args.self.now (bench (g.D.Spool.seen c.args.spool.now) spawner dialer) (bench (g.D.Spool.seen c.bury.new.spool) spawner dialer) c.bury.result
          (subst DrawsNone (sym (kind entries holds)) tt) (c.bury.ensures.steps c.args.config.now c.args.maps.now entries spawner dialer c.requires.whole holds (kind entries holds));
      drawn = undrawn (ground_of c.args.config.now c.args.maps.now c.args.moment) (table_by c.args.table.now) c.args.table.now c.bury.new.table c.args.self.now c.args.self.now (bench (g.D.Spool.seen c.args.spool.now) no_spawner no_dialer) (bench (g.D.Spool.seen c.bury.new.spool) no_spawner no_dialer) c.bury.result (drawer (g.W.Draws.seen c.args.draws.now) (g.W.Draws.answers c.args.draws.now))
          (subst DrawsNone (sym (kind (table_by c.args.table.now) (holds_by c.args.table.now))) tt) (c.bury.ensures.steps c.args.config.now c.args.maps.now (table_by c.args.table.now) no_spawner no_dialer c.requires.whole (holds_by c.args.table.now) (kind (table_by c.args.table.now) (holds_by c.args.table.now)));
      fixed = refl;
    }

pub warn-requires-clause-queued : goal.warn-requires-clause-queued
warn-requires-clause-queued g c = λ h among is. due_queued c.args.config.now c.args.moment h.entry.control (subst (λ q. is_warning_due c.args.config.now c.args.moment q.control ≡ true) (c.entry.ensures.is h (subst (λ q. Contains (seen q).entries h) (sym c.queue.ensures) among) is) (sym c.if-is_warning_due.ensures))

pub returns-then-is_warning_due : goal.returns-then-is_warning_due
returns-then-is_warning_due g c = record {
  steps = λ entries spawner dialer holds.
      let t = closing (ground_of c.args.config.now c.args.maps.now c.args.moment) entries c.args.table.now c.args.self.now holds c.requires.ready c.requires.running c.requires.rest in
      c.warn.ensures.steps entries spawner dialer c.requires.whole holds
      (t.kind ∙ end_warns c.args.config.now c.args.moment t.held.entry.control (subst (λ q. has_failed q.control ≡ false) (c.entry.ensures.is t.held (subst (λ q. Contains (seen q).entries t.held) (sym c.queue.ensures) t.among) t.is) (sym c.if-has_failed.ensures)) (subst (λ q. is_warning_due c.args.config.now c.args.moment q.control ≡ true) (c.entry.ensures.is t.held (subst (λ q. Contains (seen q).entries t.held) (sym c.queue.ensures) t.among) t.is) (sym c.if-is_warning_due.ensures)));
  drawn = c.warn.ensures.drawn;
  fixed = c.warn.ensures.fixed;
}

pub finish-requires-clause-can : goal.finish-requires-clause-can
finish-requires-clause-can g c =
    let h = c.requires.ready.held in
    let among = c.requires.ready.among in
    let is = c.requires.ready.is in record {
      held = h;
      among = among;
      is = is;
      done = subst (λ q. is_finished q.control ≡ true) (c.entry.ensures.is h (subst (λ q. Contains (seen q).entries h) (sym c.queue.ensures) among) is) (sym c.if-is_finished.ensures);
    }

pub returns-then-is_finished : goal.returns-then-is_finished
returns-then-is_finished g c =
    let kind : (entries : Entries) → HoldsTable c.args.table.now entries → kind_in (ground_of c.args.config.now c.args.maps.now c.args.moment) entries (holder_of c.args.self.now) ≡ Finishes = λ entries holds.
    let t = closing (ground_of c.args.config.now c.args.maps.now c.args.moment) entries c.args.table.now c.args.self.now holds c.requires.ready c.requires.running c.requires.rest in
    t.kind ∙ end_by c.args.config.now c.args.moment t.held.entry.control true (subst (λ q. has_failed q.control ≡ false) (c.entry.ensures.is t.held (subst (λ q. Contains (seen q).entries t.held) (sym c.queue.ensures) t.among) t.is) (sym c.if-has_failed.ensures)) (subst (λ q. is_warning_due c.args.config.now c.args.moment q.control ≡ false) (c.entry.ensures.is t.held (subst (λ q. Contains (seen q).entries t.held) (sym c.queue.ensures) t.among) t.is) (sym c.if-is_warning_due.ensures)) (subst (λ q. is_finished q.control ≡ true) (c.entry.ensures.is t.held (subst (λ q. Contains (seen q).entries t.held) (sym c.queue.ensures) t.among) t.is) (sym c.if-is_finished.ensures)) in record {
      steps = λ entries spawner dialer holds. steps_any c.args.config.now c.args.maps.now c.args.moment (drawer (g.W.Draws.seen c.args.draws.now) (g.W.Draws.answers c.args.draws.now)) entries c.args.table.now c.finish.new.table c.args.self.now c.finish.new.self (bench (g.D.Spool.seen c.args.spool.now) spawner dialer) (bench (g.D.Spool.seen c.finish.new.spool) spawner dialer) c.finish.result
          (subst DrawsNone (sym (kind entries holds)) tt) (c.finish.ensures.steps c.args.config.now c.args.maps.now entries spawner dialer c.requires.whole holds (kind entries holds));
      drawn = undrawn (ground_of c.args.config.now c.args.maps.now c.args.moment) (table_by c.args.table.now) c.args.table.now c.finish.new.table c.args.self.now c.finish.new.self (bench (g.D.Spool.seen c.args.spool.now) no_spawner no_dialer) (bench (g.D.Spool.seen c.finish.new.spool) no_spawner no_dialer) c.finish.result (drawer (g.W.Draws.seen c.args.draws.now) (g.W.Draws.answers c.args.draws.now))
          (subst DrawsNone (sym (kind (table_by c.args.table.now) (holds_by c.args.table.now))) tt) (c.finish.ensures.steps c.args.config.now c.args.maps.now (table_by c.args.table.now) no_spawner no_dialer c.requires.whole (holds_by c.args.table.now) (kind (table_by c.args.table.now) (holds_by c.args.table.now)));
      fixed = refl;
    }

pub returns : goal.returns
returns g c =
    let kind : (entries : Entries) → HoldsTable c.args.table.now entries → kind_in (ground_of c.args.config.now c.args.maps.now c.args.moment) entries (holder_of c.args.self.now) ≡ Leaves = λ entries holds.
    let t = closing (ground_of c.args.config.now c.args.maps.now c.args.moment) entries c.args.table.now c.args.self.now holds c.requires.ready c.requires.running c.requires.rest in
    t.kind ∙ end_by c.args.config.now c.args.moment t.held.entry.control false (subst (λ q. has_failed q.control ≡ false) (c.entry.ensures.is t.held (subst (λ q. Contains (seen q).entries t.held) (sym c.queue.ensures) t.among) t.is) (sym c.if-has_failed.ensures)) (subst (λ q. is_warning_due c.args.config.now c.args.moment q.control ≡ false) (c.entry.ensures.is t.held (subst (λ q. Contains (seen q).entries t.held) (sym c.queue.ensures) t.among) t.is) (sym c.if-is_warning_due.ensures)) (subst (λ q. is_finished q.control ≡ false) (c.entry.ensures.is t.held (subst (λ q. Contains (seen q).entries t.held) (sym c.queue.ensures) t.among) t.is) (sym c.if-is_finished.ensures)) in record {
      steps = λ entries spawner dialer holds. steps_any c.args.config.now c.args.maps.now c.args.moment (drawer (g.W.Draws.seen c.args.draws.now) (g.W.Draws.answers c.args.draws.now)) entries c.args.table.now c.args.table.now c.args.self.now c.args.self.now (bench (g.D.Spool.seen c.args.spool.now) spawner dialer) (bench (g.D.Spool.seen c.args.spool.now) spawner dialer) (Ok Free)
          (subst DrawsNone (sym (kind entries holds)) tt) (exit_leaves (ground_of c.args.config.now c.args.maps.now c.args.moment) entries c.args.table.now c.args.table.now c.args.self.now (g.D.Spool.seen c.args.spool.now) (g.D.Spool.seen c.args.spool.now) spawner dialer (kind entries holds) holds c.requires.whole c.requires.agrees);
      drawn = undrawn (ground_of c.args.config.now c.args.maps.now c.args.moment) (table_by c.args.table.now) c.args.table.now c.args.table.now c.args.self.now c.args.self.now (bench (g.D.Spool.seen c.args.spool.now) no_spawner no_dialer) (bench (g.D.Spool.seen c.args.spool.now) no_spawner no_dialer) (Ok Free) (drawer (g.W.Draws.seen c.args.draws.now) (g.W.Draws.answers c.args.draws.now))
          (subst DrawsNone (sym (kind (table_by c.args.table.now) (holds_by c.args.table.now))) tt) (exit_leaves (ground_of c.args.config.now c.args.maps.now c.args.moment) (table_by c.args.table.now) c.args.table.now c.args.table.now c.args.self.now (g.D.Spool.seen c.args.spool.now) (g.D.Spool.seen c.args.spool.now) no_spawner no_dialer (kind (table_by c.args.table.now) (holds_by c.args.table.now)) (holds_by c.args.table.now) c.requires.whole c.requires.agrees);
      fixed = refl;
    }
