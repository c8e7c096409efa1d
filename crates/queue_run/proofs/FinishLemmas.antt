-- The exits of a finish, and of an entry that is let go.
use Rattle.std.proofs.Common.{◌≡◌, ◌⊎◌, ⊎_elim, inl, ℕ, ◌≤◌, List, [], ◌∷◌, map, Bool, true, false, Option, Some, None, Result, Ok, Err, if◌then◌else◌, refl, sym, ◌∙◌, ap, subst, arith, reverse, eqb, Contains}
use Rattle.std.specs.Prelude.{All, IfSome, OnErr, OnOk}
use Rattle.mail_base.specs.Histories.{Rose}
use Rattle.link_edge.specs.Dials.{DialSeen}
use Rattle.spawn_edge.specs.Spawned.{IsRunningAt, Spawned}
use Rattle.spool_disk.specs.Disk.{FileMap}
use Rattle.spool_disk.specs.Spooled.{Spooled}
use Rattle.spool_store.specs.Entries.{Table}
use Rattle.spool_store.specs.Moves.{Moves}
use Rattle.spool_store.specs.Settled.{StandsFor}
use Rattle.spool_store.specs.Stores.{Agrees, KeepsOthers, refinished}
use Rattle.spool_store.specs.declared.held.Held.{Held}
use Rattle.spool_store.proofs.MovesLemmas.{moves_weaker}
use Rattle.spool_store.proofs.Replacing.{contains_map}
use Rattle.queue_table.specs.Asked.{IsFront, Leaves as LeavesFiles}
use Rattle.queue_table.specs.Calls.{HoldsTable, Stays, Tallies, store}
use Rattle.queue_table.specs.declared.table.Table.{Table as Kept}
use Rattle.queue_table.proofs.StayLemmas.{reserve_finishes}
use Rattle.queue_run.specs.declared.batch.Batch.{Batch}
use Rattle.queue_run.specs.declared.runner.Did.{Did}
use Rattle.queue_run.specs.declared.runner.Did.TheVariants as did
use Rattle.queue_run.specs.declared.runner.RunStop.{RunStop}
use Rattle.queue_run.specs.declared.runner.RunStop.TheVariants as stop
use Rattle.queue_run.specs.declared.runner.Runner.{Runner}
use Rattle.queue_run.specs.declared.runner.Running.{Running}
use Rattle.queue_run.specs.Deeds.{Files, Frees, asked_in}
use Rattle.queue_run.specs.Holders.{holder_of}
use Rattle.queue_run.specs.Kinds.{Finishes, Leaves}
use Rattle.queue_run.specs.Meant.{Ground}
use Rattle.queue_run.specs.Ready.{IsAttempt, IsReady, IsUntried}
use Rattle.queue_run.specs.Steps.{By, Closes, LetsGo, frees}
use Rattle.queue_run.specs.Working.{Bench, HasChild, IsWhole, KeepsOthersReady, Steps, bench, kind_in}
use Rattle.queue_run.proofs.OwnLemmas.{own_same}
use Rattle.queue_run.proofs.ReadyLemmas.{at_rest_running}
use Rattle.queue_run.proofs.SettleLemmas.{rests}
use Rattle.queue_run.proofs.StepLemmas.{reads_itself, steps_of, stepped_kind, whole_stays, worked_quiet}
use Rattle.queue_run.proofs.WaitLemmas.{gains_none}

-- the spool failed where no call on the store had failed before
pub rose_of : {b : Bool} {R : Type 0} → b ≡ false → (b ≡ true) ⊎ R → R
rose_of whole cause = ⊎_elim (λ broken. cc (whole, broken)) (λ r. r) cause

finished_entry : (id : ℕ) (h : Held) → (refinished id h).entry ≡ h.entry
finished_entry id h = by (eqb h.entry.id id)
  where
    by : (b : Bool) → (if b then record h { finished = true } else h).entry ≡ h.entry
    by true = refl
    by false = refl

attempt_finishes : (old new : Kept) (id : ℕ) (h : Held) (rest : List Batch) (o : Option Running) → (store new).entries ≡ map (refinished id) (store old).entries
    → IfSome o (IsAttempt old h.entry rest) → IfSome o (IsAttempt new (refinished id h).entry rest)
attempt_finishes old new id h rest None is a = tt
attempt_finishes old new id h rest (Some r) is a = record {
  reserved = subst (λ q. Rattle.queue_table.specs.Reserves.IsReserved q r.reserved) (sym is) (reserve_finishes (store old).entries id r.reserved a.reserved);
  own = a.own ∙ sym (ap (λ q. q.id) (finished_entry id h));
  control = a.control ∙ sym (ap (λ q. q.control) (finished_entry id h));
  each = a.each;
  apart = a.apart;
}

-- a finish leaves every runner ready
pub ready_finishes : (old new : Kept) (id : ℕ) (r : Runner) → (store new).entries ≡ map (refinished id) (store old).entries → IsReady old r → IsReady new r
ready_finishes old new id r is ready = record {
  held = refinished id ready.held;
  among = subst (λ q. Contains q (refinished id ready.held)) (sym is) (contains_map (refinished id) ready.held (store old).entries ready.among);
  is = ap (λ q. q.id) (finished_entry id ready.held) ∙ ready.is;
  untried = subst (λ q. All (IsUntried q.control.rows) (reverse r.rest.items)) (sym (finished_entry id ready.held)) ready.untried;
  apart = ready.apart;
  running = attempt_finishes old new id ready.held (reverse r.rest.items) r.running is ready.running;
}

module _ (G : Ground) (T : Table) (old new : Kept) (before : Runner) (s s' : Spooled) (sp : Spawned) (d : DialSeen) where
  -- the entry is let go
  pub exit_leaves : kind_in G T (holder_of before) ≡ Leaves → HoldsTable old T → IsWhole G.config old → Tallies old s
      → Steps G T old old before before (bench s sp d) (bench s sp d) (Ok did.Free)
  exit_leaves kind holds whole tallies =
      steps_of G T old old before before (bench s sp d) (bench s sp d) (Ok did.Free) LetsGo (frees T (Frees before.id ∷ []) false)
      (stepped_kind G T old old before before (bench s sp d) (bench s sp d) Leaves LetsGo kind) tt (λ files e stands. tt)
      (worked_quiet G T old old before before (bench s sp d) (bench s sp d) (Frees before.id ∷ []) true refl (reads_itself s) (omega arith)
      (record { spawner = gains_none sp.told; dialer = gains_none d.told; spawner_faults = omega arith; dialer_faults = omega arith }))
      (record {
        goes = refl;
        came = refl;
        holder = refl;
        holds = holds;
        whole = whole;
        agrees = tallies whole.whole;
        stays = record { terms = refl; dirs = refl; strange = refl };
        ready = λ e. cc e;
        others = λ other ne r. r;
        child = at_rest_running before.running (λ (run : Running). IsRunningAt sp run.child) (rests G T before Leaves kind tt);
        children = λ other ne runs. runs;
        own = own_same sp before;
      })
      refl refl refl

  -- the entry is finished
  pub exit_finishes : (r : Result Did RunStop) → kind_in G T (holder_of before) ≡ Finishes → HoldsTable old T → IsWhole G.config old
      → Moves s s' (StandsFor (store old).dirs T) (StandsFor (store old).dirs T) (StandsFor (store old).dirs T)
      → ((f : FileMap) → Moves s s' (λ g. g ≡ f) (KeepsOthers (store old).dirs f) (KeepsOthers (store old).dirs f))
      → s.faults ≤ s'.faults → OnOk r (s'.faults ≡ s.faults) → OnErr r (Rose s.faults s'.faults)
      → OnOk r (HoldsTable new T) → OnOk r (IfSome s'.told (Agrees (store new))) → Stays old new → OnOk r ((store new).broken ≡ (store old).broken)
      → OnOk r ((store new).entries ≡ map (refinished before.id) (store old).entries)
      → Rattle.std.specs.Prelude.IfOk r (λ q. q ≡ did.Free) → Rattle.std.specs.Prelude.IfErr r (λ q. q ≡ stop.SpoolFault)
      → Steps G T old new before before (bench s sp d) (bench s' sp d) r
  exit_finishes (Ok answer) kind holds whole moves frame later calm rose held agrees stays same entries ok err =
      steps_of G T old new before before (bench s sp d) (bench s' sp d) (Ok answer) (Closes false) (frees T (Files before.id ∷ Frees before.id ∷ []) false)
      (stepped_kind G T old new before before (bench s sp d) (bench s' sp d) Finishes (Closes false) kind) tt (λ files e stands. tt)
      (record {
        spool = λ stops. moves_weaker s s' (StandsFor (store old).dirs T) (StandsFor (store old).dirs T) (StandsFor (store old).dirs T)
            (LeavesFiles asked_in (store old).dirs T (Files before.id ∷ Frees before.id ∷ []) true) (IsFront asked_in (store old).dirs T (Files before.id ∷ Frees before.id ∷ []))
            (λ f p. p) (λ f p. record { done = []; rest = Files before.id ∷ Frees before.id ∷ []; whole = refl; stands = p }) moves;
        frame = frame;
        spawner = gains_none sp.told;
        dialer = gains_none d.told;
        spool_faults = later;
        spawner_faults = omega arith;
        dialer_faults = omega arith;
      })
      (record {
        goes = refl;
        came = sym ok;
        holder = subst (λ q. Rattle.queue_run.specs.Working.IsHolder q before None) (sym ok) refl;
        holds = held;
        whole = whole_stays G.config old new whole stays same;
        agrees = agrees;
        stays = stays;
        ready = λ e. cc (e, ok);
        others = λ other ne r. ready_finishes old new before.id other entries r;
        child = at_rest_running before.running (λ (run : Running). IsRunningAt sp run.child) (rests G T before Finishes kind tt);
        children = λ other ne runs. runs;
        own = own_same sp before;
      })
      calm refl refl
  exit_finishes (Err cause) kind holds whole moves frame later calm rose held agrees stays same entries ok err =
      steps_of G T old new before before (bench s sp d) (bench s' sp d) (Err cause) (Closes true) (frees T (Files before.id ∷ Frees before.id ∷ []) true)
      (stepped_kind G T old new before before (bench s sp d) (bench s' sp d) Finishes (Closes true) kind) tt (λ files e stands. tt)
      (record {
        spool = λ stops. moves_weaker s s' (StandsFor (store old).dirs T) (StandsFor (store old).dirs T) (StandsFor (store old).dirs T)
            (LeavesFiles asked_in (store old).dirs T (Files before.id ∷ Frees before.id ∷ []) (Rattle.queue_run.specs.Working.is_well (Err cause))) (IsFront asked_in (store old).dirs T (Files before.id ∷ Frees before.id ∷ []))
            (λ f p. left (Rattle.queue_run.specs.Working.is_well (Err cause)) f p) (λ f p. record { done = []; rest = Files before.id ∷ Frees before.id ∷ []; whole = refl; stands = p }) moves;
        frame = frame;
        spawner = gains_none sp.told;
        dialer = gains_none d.told;
        spool_faults = later;
        spawner_faults = omega arith;
        dialer_faults = omega arith;
      })
      (ap (λ q. Some (By q)) (sym err)) (subst (λ q. Rattle.queue_run.specs.Working.HasSpoolCause (bench s sp d) (bench s' sp d) (Err q)) (sym err) rose) refl refl
    where
      left : (well : Bool) (f : FileMap) → StandsFor (store old).dirs T f → LeavesFiles asked_in (store old).dirs T (Files before.id ∷ Frees before.id ∷ []) well f
      left true f p = p
      left false f p = inl p
