-- The exits of a poll.
use Rattle.std.proofs.Common.{◌≡◌, ◌≢◌, ◌⊎◌, inl, inr, ℕ, ◌≤◌, List, [], ◌∷◌, ◌++◌, length, map, Bool, true, false, Option, Some, None, Result, Ok, Err, refl, sym, ◌∙◌, ap, subst, arith, ne_eqb, reverse, option_map}
use Rattle.std.specs.Prelude.{IfSome, OnOk}
use Rattle.mail_base.specs.Histories.{Gains}
use Rattle.mail_base.specs.declared.outcome.Result1.{Result1}
use Rattle.link_edge.specs.Dials.{DialSeen}
use Rattle.spawn_edge.specs.Children.{ends, is_running}
use Rattle.spawn_edge.proofs.Running.{still_runs}
use Rattle.spawn_edge.specs.Spawned.{IsRunningAt, Spawned}
use Rattle.spawn_edge.specs.declared.event.Poll.{Poll}
use Rattle.spawn_edge.specs.declared.event.Poll.TheVariants as polls
use Rattle.spawn_edge.specs.declared.event.SpawnEvent.{SpawnEvent}
use Rattle.spawn_edge.specs.declared.event.SpawnEvent.TheVariants.{Polled}
use Rattle.spool_disk.specs.Spooled.{Spooled}
use Rattle.spool_store.specs.Entries.{Table}
use Rattle.spool_store.specs.Stores.{recontrolled}
use Rattle.queue_table.specs.Calls.{HoldsTable, Tallies, store}
use Rattle.queue_table.specs.Commands.{control_at}
use Rattle.queue_table.specs.Commands.Command.{Record}
use Rattle.queue_table.specs.Directories.{terms_of}
use Rattle.queue_table.specs.Results.{recorded}
use Rattle.queue_table.specs.declared.table.Table.{Table as Kept}
use Rattle.queue_run.specs.declared.runner.Did.{Did}
use Rattle.queue_run.specs.declared.runner.Did.TheVariants as did
use Rattle.queue_run.specs.declared.runner.RunStop.{RunStop}
use Rattle.queue_run.specs.declared.runner.Runner.{Runner}
use Rattle.queue_run.specs.declared.runner.Running.{Running}
use Rattle.queue_run.specs.Deeds.{Polls}
use Rattle.queue_run.specs.Holders.{attempt_of, holder_of}
use Rattle.queue_run.specs.Kinds.{Waits, kind_by}
use Rattle.queue_run.specs.Meant.{Ground, IsMeant}
use Rattle.queue_run.specs.Ready.{IsAttempt, IsReady}
use Rattle.queue_run.specs.Results.{alike}
use Rattle.queue_run.specs.Steps.{Luck, StillRuns, acted, asks, at_rest, record_of}
use Rattle.queue_run.specs.Working.{HasChild, HasDialerCause, HasSpawnerCause, IsRead, IsWhole, Steps, bench, kind_in}
use Rattle.queue_run.specs.inner.Puts.{Put}
use Rattle.queue_run.proofs.ReadyLemmas.{ready_recorded}
use Rattle.queue_run.proofs.OwnLemmas.{own_rest, own_same}
use Rattle.queue_run.proofs.StepLemmas.{reads_itself, steps_asked, steps_of, stepped_kind, worked_quiet}

pub on_ok : {T E : Type 0} (r : Result T E) (P Q : Type 0) → (P → Q) → OnOk r P → OnOk r Q
on_ok (Ok x) P Q f h = f h
on_ok (Err e) P Q f h = tt

pub some_of : {A : Type 0} (o : Option A) (P : A → Type 0) (x : A) → o ≡ Some x → IfSome o P → P x
some_of o P x is h = subst (λ q. IfSome q P) is h

pub gains_none : {X : Type 0} (o : Option (List X)) → Gains o o []
gains_none None = tt
gains_none (Some xs) = sym (Rattle.std.proofs.Common.append-nil xs)

runs_told : (a b : Option (List SpawnEvent)) (event : SpawnEvent) (child : ℕ) → Gains a b (event ∷ []) → ends child event ≡ false → IfSome a (λ history. is_running child history ≡ true) → IfSome b (λ history. is_running child history ≡ true)
runs_told None None event child told isnt runs = tt
runs_told None (Some h) event child told isnt runs = absurd told
runs_told (Some h) None event child told isnt runs = absurd told
runs_told (Some h) (Some k) event child told isnt runs = subst (λ q. is_running child q ≡ true) (sym told) (still_runs h event child isnt runs)

-- a child goes on to run where an event isn't its end
pub runs_on : (a b : Spawned) (event : SpawnEvent) (child : ℕ) → Gains a.told b.told (event ∷ []) → ends child event ≡ false → IsRunningAt a child → IsRunningAt b child
runs_on a b event child told isnt runs = runs_told a.told b.told event child told isnt runs

abbrev pub IsOver : Poll → Type 0
IsOver polls.Runs = ⊥
IsOver (polls.Over status) = Unit {0}
IsOver polls.Lost = Unit {0}

other_end : (child other : ℕ) (poll : Poll) → IsOver poll → other ≢ child → ends child (Polled other poll) ≡ false
other_end child other polls.Runs over ne = absurd over
other_end child other (polls.Over status) over ne = ne_eqb other child ne
other_end child other polls.Lost over ne = ne_eqb other child ne

module _ (G : Ground) (T : Table) (old new : Kept) (before : Runner) (run : Running) (s s' : Spooled) (sp sp' : Spawned) (d : DialSeen) where
  waits_kind : before.running ≡ Some run → kind_in G T (holder_of before) ≡ Waits (attempt_of run)
  waits_kind is = ap (λ q. kind_by G.config G.maps G.moment before.id (control_at before.id T.entries) (reverse before.rest.items) (option_map attempt_of q)) is

  -- the child still runs
  pub exit_runs : before.running ≡ Some run → IsReady old before → HasChild sp before → HoldsTable old T → IsWhole G.config old → Tallies old s
      → Gains sp.told sp'.told (Polled run.child polls.Runs ∷ []) → sp'.faults ≡ sp.faults
      → Steps G T old old before before (bench s sp d) (bench s sp' d) (Ok did.Waits)
  exit_runs is ready child holds whole tallies told same =
      steps_of G T old old before before (bench s sp d) (bench s sp' d) (Ok did.Waits) StillRuns _
      (stepped_kind G T old old before before (bench s sp d) (bench s sp' d) (Waits (attempt_of run)) StillRuns (waits_kind is))
      tt (λ files e stands. tt)
      (worked_quiet G T old old before before (bench s sp d) (bench s sp' d) (Polls before.id run.child polls.Runs ∷ []) true refl (reads_itself s) (omega arith)
      (record { spawner = told; dialer = gains_none d.told; spawner_faults = omega (arith, same); dialer_faults = omega arith }))
      (record {
        goes = refl;
        came = refl;
        holder = refl;
        holds = holds;
        whole = whole;
        agrees = tallies whole.whole;
        stays = record { terms = refl; dirs = refl; strange = refl };
        ready = λ e. ready;
        others = λ other ne r. r;
        child = subst (λ q. IfSome q (λ (x : Running). IsRunningAt sp' x.child)) (sym is) (runs_on sp sp' (Polled run.child polls.Runs) run.child told refl (some_of before.running (λ (x : Running). IsRunningAt sp x.child) run is child));
        children = λ other ne runs. runs_on sp sp' (Polled run.child polls.Runs) other told refl runs;
        own = own_same sp before;
      })
      refl same refl

  -- its end is recorded
  pub exit_ends : (poll : Poll) (one : Result1) (results : List Result1) (moment : ℕ) (r : Result Did RunStop) (luck : Bool → Luck) → IsOver poll
      → ((failed : Bool) → acted G.config G.moment T (holder_of before) (Waits (attempt_of run)) (luck failed)
      ≡ asks T (at_rest (holder_of before)) (Polls before.id run.child poll ∷ []) (record_of G.config G.moment before.id run.reserved.rows (alike one run.reserved.rows)) did.Recorded failed)
      → ((failed : Bool) → IsMeant G before.id (control_at before.id T.entries) (kind_in G T (holder_of before)) (luck failed))
      → ((failed : Bool) → IsRead T before.id (luck failed))
      → ((failed : Bool) → HasSpawnerCause sp.faults sp'.faults (luck failed)) → ((failed : Bool) → HasDialerCause d d (luck failed)) → sp.faults ≤ sp'.faults
      → G.moment ≡ moment → results ≡ alike one run.reserved.rows
      → before.running ≡ Some run → IsReady old before → HoldsTable old T → IsWhole G.config old
      → Gains sp.told sp'.told (Polled run.child poll ∷ [])
      → Put old new (Record old.terms run.reserved.room.id run.reserved.rows results moment) did.Recorded r s s'
      → OnOk r ((store new).entries ≡ map (recontrolled run.reserved.room.id (recorded old.terms run.reserved.rows results moment run.reserved.room.control)) (store old).entries)
      → Steps G T old new before (record before { running = None }) (bench s sp d) (bench s' sp' d) r
  exit_ends poll one results moment r luck over acts meant read spawner dialer later at same is ready holds whole told put entries =
      let a = some_of before.running (IsAttempt old ready.held.entry (reverse before.rest.items)) run is ready.running in
      let own : run.reserved.room.id ≡ before.id = a.own ∙ ready.is in
      let now : Runner = record before { running = None } in
      let p = subst (λ q. Put old new q did.Recorded r s s')
      (ap (λ q. Record q run.reserved.room.id run.reserved.rows results moment) whole.terms
      ∙ ap (λ q. Record (terms_of G.config) q run.reserved.rows results moment) own
      ∙ ap (λ q. Record (terms_of G.config) before.id run.reserved.rows q moment) same
      ∙ ap (λ q. Record (terms_of G.config) before.id run.reserved.rows (alike one run.reserved.rows) q) (sym at)) put in
      steps_asked G T old new before now (bench s sp d) (bench s' sp' d) luck (Polls before.id run.child poll ∷ []) (at_rest (holder_of before))
      (record_of G.config G.moment before.id run.reserved.rows (alike one run.reserved.rows)) did.Recorded r s
      (λ failed. stepped_kind G T old new before now (bench s sp d) (bench s' sp' d) (Waits (attempt_of run)) (luck failed) (waits_kind is) ∙ acts failed)
      meant (λ failed files e stands. read failed) spawner dialer
      refl refl refl holds whole (reads_itself s) refl p
      (record { spawner = told; dialer = gains_none d.told; spawner_faults = later; dialer_faults = omega arith })
      (on_ok r ((store new).entries ≡ map (recontrolled run.reserved.room.id (recorded old.terms run.reserved.rows results moment run.reserved.room.control)) (store old).entries) (IsReady new now)
      (λ e. ready_recorded old new before now ready run.reserved.rows results old.terms moment
      (e ∙ ap (λ q. map (recontrolled q (recorded old.terms run.reserved.rows results moment run.reserved.room.control)) (store old).entries) own
      ∙ ap (λ q. map (recontrolled before.id (recorded old.terms run.reserved.rows results moment q)) (store old).entries) a.control)
      refl refl ready.untried ready.apart a.apart) entries)
      tt
      (λ other ne runs. runs_on sp sp' (Polled run.child poll) other told (other_end other run.child poll over (some_of before.running (λ (x : Running). x.child ≢ other) run is ne)) runs)
      (own_rest sp before now refl)
      (λ h e. e)
