-- The exits of a start.
use Rattle.std.proofs.Common.{◌≡◌, ℕ, List, [], ◌∷◌, ◌++◌, length, drop, Bool, true, false, not, Option, Some, None, Result, Ok, Err, if◌then◌else◌, refl, sym, ◌∙◌, ap, subst, arith, reverse, option_map, nat_eq}
use Rattle.std.specs.Prelude.{All, IfSome}
use Rattle.std.proofs.lemmas.List.Elements.{All-tail}
use Rattle.mail_base.specs.Histories.{Gains}
use Rattle.mail_base.specs.declared.mailer.Mailer.{Mailer}
use Rattle.link_edge.specs.Dials.{DialSeen}
use Rattle.mailer_pipe.specs.Starts.{Asked, Begins as BeginsAs, start_of}
use Rattle.mailer_pipe.specs.declared.fault.PipeFault.TheVariants as pipe
use Rattle.spawn_edge.specs.Spawned.{IsRunningAt, Spawned}
use Rattle.spawn_edge.specs.declared.event.SpawnEvent.{SpawnEvent}
use Rattle.spawn_edge.specs.declared.event.SpawnEvent.TheVariants.{Began, Unbegun}
use Rattle.spawn_edge.specs.declared.event.Start.{Start}
use Rattle.spawn_edge.proofs.Running.{begun_runs}
use Rattle.spool_disk.specs.Spooled.{Spooled}
use Rattle.spool_store.specs.Entries.{Table}
use Rattle.spool_store.proofs.OpenLemmas.{reads_told}
use Rattle.queue_table.specs.Calls.{HoldsTable, Tallies, store}
use Rattle.queue_table.specs.Reserves.{IsReserved}
use Rattle.queue_table.specs.declared.table.Table.{Table as Kept}
use Rattle.queue_run.specs.declared.batch.Batch.{Batch}
use Rattle.queue_run.specs.declared.letter.Letter.{Letter}
use Rattle.queue_run.specs.declared.runner.Did.{Did}
use Rattle.queue_run.specs.declared.runner.Did.TheVariants as did
use Rattle.queue_run.specs.declared.runner.RunStop.{RunStop}
use Rattle.queue_run.specs.declared.runner.RunStop.TheVariants as stop
use Rattle.queue_run.specs.declared.runner.Runner.{Runner}
use Rattle.queue_run.specs.declared.runner.Running.{Running}
use Rattle.queue_run.specs.Deeds.{Failed, Given, Launch, Missed, Starts as Launches, begun_as}
use Rattle.queue_run.specs.Holders.{Attempt, Holder, attempt_of, holder_of}
use Rattle.queue_run.specs.Kinds.{Kind, Starts}
use Rattle.queue_run.specs.Meant.{Ground, IsStartOf}
use Rattle.queue_run.specs.Ready.{AreAllApart, AreApart, IsAttempt, IsReady, IsUntried}
use Rattle.queue_run.specs.Results.{alike, device_fault}
use Rattle.queue_run.specs.Steps.{Begins, Misses, does, fails, is_large, records, running_for, where_large}
use Rattle.queue_run.specs.Working.{IsWhole, Steps, bench, kind_in}
use Rattle.queue_run.specs.inner.Puts.{IsPutAs}
use Rattle.queue_run.proofs.LetterLemmas.{IsHandedFor, meant_as}
use Rattle.queue_run.proofs.OwnLemmas.{own_begun}
use Rattle.queue_run.proofs.PutLemmas.{alike_long, turned}
use Rattle.queue_run.proofs.SettleLemmas.{IsWithout, exit_memory, exit_recorded}
use Rattle.queue_run.proofs.StepLemmas.{steps_of, stepped_kind, worked_quiet}
use Rattle.queue_run.proofs.WaitLemmas.{gains_none, runs_on}

module _ (G : Ground) (T : Table) (old new : Kept) (before now : Runner) (batch : Batch) (mailer : Mailer) (s m s' : Spooled) (sp sp' : Spawned) (d : DialSeen) where
  abbrev K : Kind
  K = Starts batch mailer

  start_as : (letter : Letter) (start : Start) → kind_in G T (holder_of before) ≡ K → start ≡ start_of mailer letter.macros batch.users letter.text → IsStartOf (kind_in G T (holder_of before)) letter start
  start_as letter start kind h = subst (λ q. IsStartOf q letter start) (sym kind) h

  -- a program was started
  pub exit_begun : (letter : Letter) (child : ℕ) (run : Running) (ready : IsReady old before) → kind_in G T (holder_of before) ≡ K → is_large mailer letter ≡ false
      → IsHandedFor G T old before K s m letter → HoldsTable old T → IsWhole G.config old → Tallies old s
      → now.id ≡ before.id → before.rest.items ≡ now.rest.items ++ batch ∷ [] → now.running ≡ Some run → before.running ≡ None
      → run.child ≡ child → run.reserved.rows ≡ batch.places → run.reserved.room.id ≡ before.id → run.reserved.room.control ≡ ready.held.entry.control → IsReserved (store old).entries run.reserved → run.outcomes.results ≡ alike device_fault batch.places
      → Asked (start_of mailer letter.macros batch.users letter.text) sp sp' (Ok child)
      → Steps G T old old before now (bench s sp d) (bench m sp' d) (Ok did.Began)
  exit_begun letter child run ready kind small handed holds whole tallies id split running rested is_child rows own control reserved results asked =
      let start = start_of mailer letter.macros batch.users letter.text in
      let is = turned before.rest.items now.rest.items batch split in
      let untried = subst (All (IsUntried ready.held.entry.control.rows)) is ready.untried in
      let apart = subst AreAllApart is ready.apart in
      steps_of G T old old before now (bench s sp d) (bench m sp' d) (Ok did.Began) (Begins letter start child sp.missed)
      (does T (running_for (holder_of before) child batch.places) (Launches before.id batch.places start (Given child sp.missed) ∷ []) did.Began)
      (stepped_kind G T old old before now (bench s sp d) (bench m sp' d) K (Begins letter start child sp.missed) kind
      ∙ ap (λ q. where_large (not q) T (holder_of before) (does T (running_for (holder_of before) child batch.places) (Launches before.id batch.places start (Given child sp.missed) ∷ []) did.Began)) small)
      (meant_as G T before K letter kind handed.meant, start_as letter start kind refl)
      (λ files e stands. handed.read files e stands)
      (worked_quiet G T old old before now (bench s sp d) (bench m sp' d) (Launches before.id batch.places start (Given child sp.missed) ∷ []) true refl handed.reads (let q = handed.same in omega (arith, q))
      (record { spawner = asked.told; dialer = gains_none d.told; spawner_faults = asked.cause.later; dialer_faults = omega arith }))
      (record {
        goes = refl;
        came = refl;
        holder = ap (λ (q : Holder). Some q) (λ i. record {
          id = sym id i;
          rest = ap (drop 1) is i;
          running = (ap (λ (q : Attempt). Some q) (λ j. record { child = sym is_child j; places = sym rows j }) ∙ sym (ap (option_map attempt_of) running)) i;
        });
        holds = holds;
        whole = whole;
        agrees = subst (λ q. IfSome q (Rattle.spool_store.specs.Stores.Agrees (store old))) (sym (reads_told s m handed.reads)) (tallies whole.whole);
        stays = record { terms = refl; dirs = refl; strange = refl };
        ready = λ e. record {
          held = ready.held;
          among = ready.among;
          is = ready.is ∙ sym id;
          untried = All-tail (IsUntried ready.held.entry.control.rows) batch (reverse now.rest.items) untried;
          apart = apart.1;
          running = subst (λ q. IfSome q (IsAttempt old ready.held.entry (reverse now.rest.items))) (sym running) (record {
            reserved = reserved;
            own = own ∙ sym ready.is;
            control = control;
            each = ap length results ∙ alike_long device_fault batch.places ∙ ap length (sym rows);
            apart = subst (λ q. All (AreApart q) (reverse now.rest.items)) (sym rows) apart.0;
          });
        };
        others = λ other ne r. r;
        child = subst (λ q. IfSome q (λ (x : Running). IsRunningAt sp' x.child)) (sym running) (subst (IsRunningAt sp') (sym is_child) (begun_now sp.told sp'.told start child sp.missed asked.told));
        children = λ other ne runs. runs_on sp sp' (Began start child sp.missed) other asked.told refl runs;
        own = own_begun sp before now run child running is_child asked.once;
      })
      handed.same asked.calm refl
    where
      begun_now : (a b : Option (List SpawnEvent)) (start : Start) (child missed : ℕ) → Gains a b (Began start child missed ∷ []) → IfSome b (λ history. Rattle.spawn_edge.specs.Children.is_running child history ≡ true)
      begun_now None None start child missed told = tt
      begun_now None (Some h) start child missed told = absurd told
      begun_now (Some h) None start child missed told = absurd told
      begun_now (Some h) (Some k) start child missed told = subst (λ q. Rattle.spawn_edge.specs.Children.is_running child q ≡ true) (sym told) (begun_runs h start child missed)

  -- one that failed, as it is told
  abbrev launch_of : Bool → ℕ → Launch
  launch_of true missed = Failed missed
  launch_of false missed = Missed

  launched : (b : Bool) (start : Start) (missed : ℕ) → begun_as start (launch_of b missed) ≡ (if b then Unbegun start missed ∷ [] else [])
  launched true start missed = refl
  launched false start missed = refl

  failed_as : (b : Bool) (start : Start) (failed : Bool) → fails G.config G.moment T (holder_of before) batch start (launch_of b sp.missed) failed
      ≡ records G.config G.moment T (holder_of before) batch (Launches before.id batch.places start (launch_of b sp.missed) ∷ []) (alike device_fault batch.places) failed
  failed_as true start failed = refl
  failed_as false start failed = refl

  pub exit_unbegun : (letter : Letter) (moment : ℕ) (r : Result Did RunStop) (ready : IsReady old before) → kind_in G T (holder_of before) ≡ K → is_large mailer letter ≡ false
      → IsHandedFor G T old before K s m letter → G.moment ≡ moment → IsWithout before now batch → HoldsTable old T → IsWhole G.config old
      → BeginsAs (start_of mailer letter.macros batch.users letter.text) sp sp' (Err pipe.DeviceFault)
      → IsPutAs old new before.id batch.places (alike device_fault batch.places) moment ready.held.entry.control r m s'
      → Steps G T old new before now (bench s sp d) (bench s' sp' d) r
  exit_unbegun letter moment r ready kind small handed at w holds whole asked put =
      let start = start_of mailer letter.macros batch.users letter.text in
      let launch = launch_of (nat_eq sp'.missed 0) sp.missed in
      exit_recorded G T old new before now (bench s sp d) (bench s' sp' d) (λ failed. Misses letter start launch failed) (Launches before.id batch.places start launch ∷ []) batch (alike device_fault batch.places) moment r m ready
      (λ failed. stepped_kind G T old new before now (bench s sp d) (bench s' sp' d) K (Misses letter start launch failed) kind
      ∙ ap (λ q. where_large (not q) T (holder_of before) (fails G.config G.moment T (holder_of before) batch start launch failed)) small
      ∙ failed_as (nat_eq sp'.missed 0) start failed)
      (λ failed. (meant_as G T before K letter kind handed.meant, start_as letter start kind refl)) (λ failed files e stands. handed.read files e stands) (λ failed. asked.cause.failed) (λ failed. refl) refl at w holds whole handed.reads handed.same put
      (record {
        spawner = subst (Gains sp.told sp'.told) (sym (launched (nat_eq sp'.missed 0) start sp.missed) ∙ sym (Rattle.std.proofs.Common.append-nil (begun_as start launch))) asked.told;
        dialer = gains_none d.told;
        spawner_faults = asked.cause.later;
        dialer_faults = omega arith;
      })
      (λ other ne runs. kept_runs sp.told sp'.told (nat_eq sp'.missed 0) start sp.missed other asked.told runs)
    where
      kept_runs : (a b : Option (List SpawnEvent)) (e : Bool) (start : Start) (missed other : ℕ) → Gains a b (if e then Unbegun start missed ∷ [] else [])
          → IfSome a (λ history. Rattle.spawn_edge.specs.Children.is_running other history ≡ true) → IfSome b (λ history. Rattle.spawn_edge.specs.Children.is_running other history ≡ true)
      kept_runs None None e start missed other told runs = tt
      kept_runs None (Some h) e start missed other told runs = absurd told
      kept_runs (Some h) None e start missed other told runs = absurd told
      kept_runs (Some h) (Some k) true start missed other told runs = subst (λ q. Rattle.spawn_edge.specs.Children.is_running other q ≡ true) (sym told) (Rattle.spawn_edge.proofs.Running.still_runs h (Unbegun start missed) other refl runs)
      kept_runs (Some h) (Some k) false start missed other told runs = subst (λ q. Rattle.spawn_edge.specs.Children.is_running other q ≡ true) (sym (told ∙ Rattle.std.proofs.Common.append-nil h)) runs

  -- there was no memory for the start
  pub exit_starved : (letter : Letter) → kind_in G T (holder_of before) ≡ K → IsHandedFor G T old before K s m letter
      → BeginsAs (start_of mailer letter.macros batch.users letter.text) sp sp' (Err pipe.NoMemory)
      → Steps G T old new before now (bench s sp d) (bench m sp' d) (Err stop.NoMemory)
  exit_starved letter kind handed same =
      subst (λ q. Steps G T old new before now (bench s sp d) (bench m q d) (Err stop.NoMemory)) (sym same)
      (exit_memory G T old new before now s m sp d K kind refl handed.reads handed.same)
