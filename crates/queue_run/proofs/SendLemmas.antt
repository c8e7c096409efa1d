-- The exits of what is sent for an entry: a return, a warning, or dead rows with neither.
use Rattle.std.proofs.Common.{◌≡◌, ◌⊎◌, inl, inr, ⊎_elim, ℕ, ◌<◌, ◌+◌, List, [], ◌++◌, length, reverse, Bool, true, false, Some, None, Result, Ok, Err, if◌then◌else◌, refl, sym, ◌∙◌, ap, subst, arith, eqb, lt-ltb, ltb-true}
use Rattle.std.specs.Prelude.{◌↔◌, All, IsErrOf, OnOk, sum_by}
use Rattle.std.proofs.lemmas.List.Elements.{All-nil, Contains-append_left}
use Rattle.mail_base.specs.declared.control.Control.{Control}
use Rattle.mail_base.specs.declared.fault.StoreFault.{StoreFault}
use Rattle.mail_base.specs.declared.fault.StoreFault.TheVariants as fault
use Rattle.mail_base.specs.declared.id.TheConstants.Id.{MOST}
use Rattle.mail_base.specs.declared.message.Back.{Back}
use Rattle.link_edge.specs.Dials.{DialSeen}
use Rattle.spawn_edge.specs.Spawned.{IsRunningAt, Spawned}
use Rattle.spool_disk.specs.Disk.{FileMap}
use Rattle.spool_disk.specs.Spooled.{Reads, Spooled}
use Rattle.spool_store.specs.Entries.{Stored, Table, replaced, with_control}
use Rattle.spool_store.specs.Settled.{StandsFor}
use Rattle.spool_store.proofs.Replacing.{contains_map}
use Rattle.queue_table.specs.Calls.{CarriesOut, HoldsTable, IsSame, store}
use Rattle.queue_table.specs.Commands.{Command, after, brought, changed_by, control_at, with_children, with_entry}
use Rattle.queue_table.specs.Commands.Command.{Return, Warn}
use Rattle.queue_table.specs.Directories.{terms_of}
use Rattle.queue_table.specs.Results.{with_returns, with_warning}
use Rattle.queue_table.specs.declared.terms.Terms.{Terms}
use Rattle.queue_table.specs.declared.table.Table.{Table as Kept}
use Rattle.queue_table.specs.Soundness.{HasEntry}
use Rattle.queue_table.proofs.StayLemmas.{has_entry, has_id}
use Rattle.queue_run.specs.declared.batch.Batch.{Batch}
use Rattle.queue_run.specs.declared.runner.Did.{Did}
use Rattle.queue_run.specs.declared.runner.Did.TheVariants as did
use Rattle.queue_run.specs.declared.runner.RunStop.{RunStop}
use Rattle.queue_run.specs.declared.runner.RunStop.TheVariants as stop
use Rattle.queue_run.specs.declared.runner.Runner.{Runner}
use Rattle.queue_run.specs.declared.runner.Running.{Running}
use Rattle.queue_run.specs.Holders.{holder_of}
use Rattle.queue_run.specs.Kinds.{Buries, Kind}
use Rattle.queue_run.specs.Meant.{Ground, IsMeant}
use Rattle.queue_run.specs.Ready.{AreAllApart, IsAttempt, IsReady, IsUntried}
use Rattle.queue_run.specs.Steps.{By, Dies, Lacks, Luck, acted, asks, halts, lacks_ids, sends}
use Rattle.queue_run.specs.Working.{HasDialerCause, HasSpawnerCause, IsRead, IsWhole, Steps, bench, kind_in}
use Rattle.queue_run.specs.inner.Handed.{stop_of}
use Rattle.queue_run.specs.inner.Puts.{Put}
use Rattle.queue_run.proofs.FinishLemmas.{rose_of}
use Rattle.queue_run.proofs.OwnLemmas.{own_rest}
use Rattle.queue_run.proofs.ReadyLemmas.{at_rest_running}
use Rattle.queue_run.proofs.SettleLemmas.{exit_memory}
use Rattle.queue_run.proofs.LetterLemmas.{found}
use Rattle.queue_run.proofs.StepLemmas.{reads_itself, steps_asked, steps_of, stepped_kind, worked_quiet}
use Rattle.queue_run.proofs.WaitLemmas.{gains_none}

-- what a step answers
abbrev pub sent_as : Result (Unit {0}) StoreFault → Result Did RunStop
sent_as (Ok done) = Ok did.Gave
sent_as (Err f) = Err (stop_of f)

-- a command that was carried out, or failed in the spool
pub put_ok : (old new : Kept) (c : Command) (done : Unit {0}) (a b : Spooled) → CarriesOut old new c (Ok done) a b → Put old new c did.Gave (Ok did.Gave) a b
put_ok old new c done a b carries = record {
  moves = carries.moves;
  holds = carries.holds;
  frame = carries.frame;
  agrees = carries.agrees;
  stays = carries.stays;
  whole = carries.whole;
  ok = refl;
  err = tt;
  later = carries.later;
  calm = ⊎_elim (λ e. cc e) (λ e. e) carries.calm;
  cause = tt;
}

pub put_err : (old new : Kept) (c : Command) (a b : Spooled) → (store old).broken ≡ false → CarriesOut {T = Unit {0}} old new c (Err fault.SpoolFault) a b → Put old new c did.Gave (Err stop.SpoolFault) a b
put_err old new c a b whole carries = record {
  moves = carries.moves;
  holds = λ table h. tt;
  frame = carries.frame;
  agrees = tt;
  stays = carries.stays;
  whole = tt;
  ok = tt;
  err = refl;
  later = carries.later;
  calm = tt;
  cause = rose_of whole (carries.cause refl);
}

-- a runner at rest is ready where its entry is in the store
pub ready_at_rest : (new : Kept) (T : Table) (r : Runner) → HoldsTable new T → HasEntry T r.id → r.rest.items ≡ [] → r.running ≡ None → IsReady new r
ready_at_rest new T r holds has rest running =
    let k = has_id new T r.id holds has in record {
      held = k.held;
      among = k.among;
      is = k.is;
      untried = subst (λ (q : List Batch). All (IsUntried k.held.entry.control.rows) (reverse q)) (sym rest) (All-nil (IsUntried k.held.entry.control.rows));
      apart = subst (λ (q : List Batch). AreAllApart (reverse q)) (sym rest) tt;
      running = at_rest_running r.running (IsAttempt new k.held.entry (reverse r.rest.items)) running;
    }

-- an entry goes on to be there where its control is changed
stays_in : (T : Table) (more : List Stored) (next id : ℕ) (c : Control) → HasEntry T id → HasEntry (record { entries = with_control id c T.entries ++ more; next = next }) id
stays_in T more next id c has = record {
  entry = replaced id c has.entry;
  among = Contains-append_left (with_control id c T.entries) more (replaced id c has.entry) (contains_map (replaced id c) has.entry T.entries has.among);
  is = same (eqb has.entry.id id) ∙ has.is;
}
  where
    same : (b : Bool) → (if b then record has.entry { control = c } else has.entry).id ≡ has.entry.id
    same true = refl
    same false = refl

module _ (G : Ground) (T : Table) (old new : Kept) (before : Runner) (s m s' : Spooled) (sp : Spawned) (d : DialSeen) (k : Kind) (luck : Bool → Luck) (backs : List Back) (c : Command) where
  -- how the step is made, and what its luck says
  pub record Sending : Type 0 where
    pub kind : kind_in G T (holder_of before) ≡ k
    pub acts : (failed : Bool) → acted G.config G.moment T (holder_of before) k (luck failed) ≡ sends T (holder_of before) backs c failed
    pub lacks : acted G.config G.moment T (holder_of before) k (Lacks stop.NoMemory) ≡ halts T (holder_of before) (By stop.NoMemory)
    pub meant : (failed : Bool) → IsMeant G before.id (control_at before.id T.entries) (kind_in G T (holder_of before)) (luck failed)
    pub read : (failed : Bool) (files : FileMap) → s.told ≡ Some files → StandsFor (store old).dirs T files → IsRead T before.id (luck failed)
    pub spawner : (failed : Bool) → HasSpawnerCause sp.faults sp.faults (luck failed)
    pub dialer : (failed : Bool) → HasDialerCause d d (luck failed)
    pub changes : changed_by c ≡ Some before.id
    pub stays : HasEntry (after T c) before.id
    pub rest : before.rest.items ≡ []
    pub running : before.running ≡ None
    pub holds : HoldsTable old T
    pub whole : IsWhole G.config old
    pub reads : Reads s m
    pub same : m.faults ≡ s.faults

  abbrev Spends : Result (Unit {0}) StoreFault → Type 0
  Spends r = IsErrOf r fault.IdsSpent ↔ ((store old).broken ≡ false × (MOST + 1 < (store old).next + sum_by (λ (back : Back). length back.cuts) backs))

  not_lacking : (r : Result (Unit {0}) StoreFault) (b : Bool) → Sending → Spends r → (IsErrOf r fault.IdsSpent → ⊥) → lacks_ids T backs ≡ b → lacks_ids T backs ≡ false
  not_lacking r true x spends isnt e = absurd (isnt (spends.1 (x.whole.whole, subst (λ q. MOST + 1 < q + sum_by (λ (back : Back). length back.cuts) backs) (sym x.holds.next) (ltb-true (MOST + 1) (T.next + sum_by (λ (back : Back). length back.cuts) backs) e))))
  not_lacking r false x spends isnt e = e

  sends_by : (b : Bool) → lacks_ids T backs ≡ b → (failed : Bool) → sends T (holder_of before) backs c failed ≡ (if b then halts T (holder_of before) (By stop.IdsSpent) else asks T (holder_of before) [] c did.Gave failed)
  sends_by b e failed = ap (λ (q : Bool). if q then halts T (holder_of before) (By stop.IdsSpent) else asks T (holder_of before) [] c did.Gave failed) e

  asked : (r : Result Did RunStop) → Sending → lacks_ids T backs ≡ false → Put old new c did.Gave r m s' → OnOk r (HoldsTable new (after T c)) → Steps G T old new before before (bench s sp d) (bench s' sp d) r
  asked r x lacks put held =
      steps_asked G T old new before before (bench s sp d) (bench s' sp d) luck [] (holder_of before) c did.Gave r m
      (λ failed. stepped_kind G T old new before before (bench s sp d) (bench s' sp d) k (luck failed) x.kind ∙ x.acts failed ∙ sends_by false lacks failed)
      x.meant x.read x.spawner x.dialer refl refl x.changes x.holds x.whole x.reads x.same put
      (record { spawner = gains_none sp.told; dialer = gains_none d.told; spawner_faults = omega arith; dialer_faults = omega arith })
      (Rattle.queue_run.proofs.WaitLemmas.on_ok r (HoldsTable new (after T c)) (IsReady new before) (λ h. ready_at_rest new (after T c) before h x.stays x.rest x.running) held)
      (at_rest_running before.running (λ (run : Running). IsRunningAt sp run.child) x.running)
      (λ other ne runs. runs)
      (own_rest sp before before x.running)
      (λ h e. e)

  spent : Sending → lacks_ids T backs ≡ true → s' ≡ m → Steps G T old new before before (bench s sp d) (bench s' sp d) (Err stop.IdsSpent)
  spent x lacks is =
      steps_of G T old new before before (bench s sp d) (bench s' sp d) (Err stop.IdsSpent) (luck false) (halts T (holder_of before) (By stop.IdsSpent))
      (stepped_kind G T old new before before (bench s sp d) (bench s' sp d) k (luck false) x.kind ∙ x.acts false ∙ sends_by true lacks false)
      (x.meant false) (x.read false)
      (worked_quiet G T old new before before (bench s sp d) (bench s' sp d) [] true refl (subst (λ (q : Spooled). Reads s q) (sym is) x.reads) (let e = faults_same in omega (arith, e))
      (record { spawner = gains_none sp.told; dialer = gains_none d.told; spawner_faults = omega arith; dialer_faults = omega arith }))
      refl faults_same (x.spawner false) (x.dialer false)
    where
      faults_same : s'.faults ≡ s.faults
      faults_same = ap (λ (q : Spooled). q.faults) is ∙ x.same

  -- a command by which something is sent
  pub exit_sent : (r : Result (Unit {0}) StoreFault) → Sending → CarriesOut old new c r m s' → ((IsErrOf r fault.NoMemory ⊎ IsErrOf r fault.IdsSpent) → IsSame old new × (s' ≡ m)) → Spends r
      → Steps G T old new before before (bench s sp d) (bench s' sp d) (sent_as r)
  exit_sent (Ok done) x carries refused spends =
      asked (Ok did.Gave) x (not_lacking (Ok done) (lacks_ids T backs) x spends (λ e. cc e) refl) (put_ok old new c done m s' carries) (carries.holds T x.holds)
  exit_sent (Err fault.SpoolFault) x carries refused spends =
      asked (Err stop.SpoolFault) x (not_lacking (Err fault.SpoolFault) (lacks_ids T backs) x spends (λ e. cc e) refl) (put_err old new c m s' x.whole.whole carries) tt
  exit_sent (Err fault.IdsSpent) x carries refused spends =
      spent x (lt-ltb (MOST + 1) (T.next + sum_by (λ (back : Back). length back.cuts) backs) (subst (λ q. MOST + 1 < q + sum_by (λ (back : Back). length back.cuts) backs) x.holds.next (spends.0 refl).1)) (refused (inr refl)).1
  exit_sent (Err fault.NoMemory) x carries refused spends =
      let is = (refused (inl refl)).1 in
      exit_memory G T old new before before s s' sp d k x.kind x.lacks (subst (λ (q : Spooled). Reads s q) (sym is) x.reads) (ap (λ (q : Spooled). q.faults) is ∙ x.same)

-- ---- rows that are dead

stored_of : (old : Kept) (T : Table) (r : Runner) → HoldsTable old T → IsReady old r → HasEntry T r.id
stored_of old T r holds ready = has_entry old T r.id holds (record { held = ready.held; among = ready.among; is = ready.is })

-- the entry of a runner stays where failed rows of it are given back
pub stays_returned : (old : Kept) (T : Table) (r : Runner) (terms : Terms) (backs : List Back) (moment : ℕ) → HoldsTable old T → IsReady old r → HasEntry (after T (Return terms r.id backs moment)) r.id
stays_returned old T r terms backs moment holds ready =
    let f = found old T r holds ready in
    let d = with_returns T.next f.held.entry.control in
    subst (λ q. HasEntry (with_entry (λ control. with_children terms moment T r.id backs (with_returns T.next control)) T q) r.id) (sym f.at)
    (stays_in T (brought terms moment (record { id = r.id; revision = d.revision }) T.next backs) (T.next + sum_by (λ (back : Back). length back.cuts) backs) r.id d (stored_of old T r holds ready))

-- and where its sender is warned
pub stays_warned : (old : Kept) (T : Table) (r : Runner) (terms : Terms) (backs : List Back) (moment : ℕ) → HoldsTable old T → IsReady old r → HasEntry (after T (Warn terms r.id backs moment)) r.id
stays_warned old T r terms backs moment holds ready =
    let f = found old T r holds ready in
    let d = with_warning f.held.entry.control in
    subst (λ q. HasEntry (with_entry (λ control. with_children terms moment T r.id backs (with_warning control)) T q) r.id) (sym f.at)
    (stays_in T (brought terms moment (record { id = r.id; revision = d.revision }) T.next backs) (T.next + sum_by (λ (back : Back). length back.cuts) backs) r.id d (stored_of old T r holds ready))

pub exit_buried : (G : Ground) (T : Table) (old new : Kept) (before : Runner) (s s' : Spooled) (sp : Spawned) (d : DialSeen) (moment : ℕ) (r : Result (Unit {0}) StoreFault)
    → kind_in G T (holder_of before) ≡ Buries → G.moment ≡ moment → IsReady old before → before.rest.items ≡ [] → before.running ≡ None → HoldsTable old T → IsWhole G.config old
    → CarriesOut old new (Return old.terms before.id [] moment) r s s'
    → ((IsErrOf r fault.NoMemory ⊎ IsErrOf r fault.IdsSpent) → IsSame old new × (s' ≡ s))
    → (IsErrOf r fault.IdsSpent ↔ ((store old).broken ≡ false × (MOST + 1 < (store old).next + sum_by (λ (back : Back). length back.cuts) [])))
    → Steps G T old new before before (bench s sp d) (bench s' sp d) (sent_as r)
exit_buried G T old new before s s' sp d moment r kind at ready rest running holds whole carries refused spends =
    let c = Return (terms_of G.config) before.id [] G.moment in
    exit_sent G T old new before s s s' sp d Buries (λ failed. Dies failed) [] c r
    (record {
      kind = kind;
      acts = λ failed. refl;
      lacks = refl;
      meant = λ failed. tt;
      read = λ failed files e stands. tt;
      spawner = λ failed. refl;
      dialer = λ failed. refl;
      changes = refl;
      stays = stays_returned old T before (terms_of G.config) [] G.moment holds ready;
      rest = rest;
      running = running;
      holds = holds;
      whole = whole;
      reads = reads_itself s;
      same = refl;
    })
    (subst (λ q. CarriesOut old new q r s s') (ap (λ q. Return q before.id [] moment) whole.terms ∙ ap (λ q. Return (terms_of G.config) before.id [] q) (sym at)) carries)
    refused spends
