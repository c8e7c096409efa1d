-- The exits of a batch that needs no attempt, and of every record of a batch.
use Rattle.std.proofs.Common.{◌≡◌, ⊎_elim, ℕ, List, [], ◌∷◌, ◌++◌, map, drop, Bool, Option, Some, None, Result, Err, refl, sym, ◌∙◌, ap, subst, arith, reverse, option_map}
use Rattle.std.specs.Prelude.{slice_get, All}
use Rattle.std.specs.List.{flat_map}
use Rattle.std.proofs.lemmas.List.Elements.{All-tail}
use Rattle.mail_base.specs.Histories.{Gains}
use Rattle.mail_base.specs.declared.config.Config.{Config}
use Rattle.mail_base.specs.declared.control.Control.{Control}
use Rattle.mail_base.specs.declared.outcome.Result1.{Result1}
use Rattle.link_edge.specs.Dials.{DialSeen}
use Rattle.map_tables.specs.Answers.{Loaded}
use Rattle.spawn_edge.specs.Spawned.{Spawned}
use Rattle.spool_disk.specs.Disk.{FileMap}
use Rattle.spool_disk.specs.Spooled.{Reads, Spooled}
use Rattle.spool_store.specs.Entries.{Table}
use Rattle.spool_store.specs.Settled.{StandsFor}
use Rattle.spool_store.specs.Stores.{recontrolled}
use Rattle.queue_table.specs.Calls.{HoldsTable, store}
use Rattle.queue_table.specs.Commands.{control_at}
use Rattle.queue_table.specs.Commands.Command.{Record}
use Rattle.queue_table.specs.Directories.{terms_of}
use Rattle.queue_table.specs.Results.{recorded}
use Rattle.queue_table.specs.declared.table.Table.{Table as Kept}
use Rattle.queue_run.specs.declared.batch.Batch.{Batch}
use Rattle.queue_run.specs.declared.runner.Did.{Did}
use Rattle.queue_run.specs.declared.runner.Did.TheVariants as did
use Rattle.queue_run.specs.declared.runner.RunStop.{RunStop}
use Rattle.queue_run.specs.declared.runner.RunStop.TheVariants as stop
use Rattle.queue_run.specs.declared.runner.Runner.{Runner}
use Rattle.queue_run.specs.declared.runner.Running.{Running}
use Rattle.queue_run.specs.Deeds.{Deed, asked_in}
use Rattle.queue_run.specs.Holders.{Holder, attempt_of, holder_of}
use Rattle.queue_run.specs.Kinds.{Kind, Settles, Waits, kind_by}
use Rattle.queue_run.specs.Meant.{Ground, IsMeant}
use Rattle.queue_run.specs.Ready.{AreAllApart, IsReady, IsUntried}
use Rattle.queue_run.specs.Results.{alike}
use Rattle.queue_run.specs.Steps.{By, Luck, Records, acted, asks, halts, record_of, records, without_first}
use Rattle.queue_run.specs.Working.{Bench, HasDialerCause, HasSpawnerCause, IsRead, IsWhole, KeepsChildren, Steps, bench, kind_in, stepped_on}
use Rattle.queue_run.specs.inner.Puts.{IsPutAs, IsPutOrNot, Put}
use Rattle.queue_run.proofs.PutLemmas.{turned}
use Rattle.queue_run.proofs.OwnLemmas.{own_rest}
use Rattle.queue_run.proofs.ReadyLemmas.{at_rest_running, ready_recorded}
use Rattle.queue_run.proofs.StepLemmas.{Others, reads_itself, steps_asked, steps_early, stepped_kind}
use Rattle.queue_run.proofs.WaitLemmas.{gains_none, on_ok}

-- a kind of a batch that is tried
abbrev pub IsTrying : Kind → Type 0
IsTrying (Waits running) = ⊥
IsTrying kind = Unit {0}

rests_by : (config : Config) (maps : Loaded) (moment id : ℕ) (found : Option Control) (rest : List Batch) (k : Kind) (o : Option Running) → kind_by config maps moment id found rest (option_map attempt_of o) ≡ k → IsTrying k → o ≡ None
rests_by config maps moment id found rest k None e t = refl
rests_by config maps moment id found rest k (Some r) e t = absurd (subst IsTrying (sym e) t)

-- a runner of another step isn't running
pub rests : (G : Ground) (T : Table) (before : Runner) (k : Kind) → kind_in G T (holder_of before) ≡ k → IsTrying k → before.running ≡ None
rests G T before k e t = rests_by G.config G.maps G.moment before.id (control_at before.id T.entries) (reverse before.rest.items) k before.running e t

-- the first batch that is left is the last one that is kept
pub first_is : (xs ys : List Batch) (x batch : Batch) → xs ≡ ys ++ x ∷ [] → slice_get (reverse xs) 0 ≡ Some batch → batch ≡ x
first_is xs ys x batch is first = same_Some (sym first ∙ ap (λ q. slice_get q 0) (turned xs ys x is))
  where
    same_Some : Some batch ≡ Some x → batch ≡ x
    same_Some e = cc e

-- the runner without its first batch
pub record IsWithout (before now : Runner) (batch : Batch) : Type 0 where
  pub id : now.id ≡ before.id
  pub split : before.rest.items ≡ now.rest.items ++ batch ∷ []
  pub running : now.running ≡ None

pub without_holder : (before now : Runner) (batch : Batch) → IsWithout before now batch → without_first (holder_of before) ≡ holder_of now
without_holder before now batch w = λ i. record {
  id = sym w.id i;
  rest = ap (drop 1) (turned before.rest.items now.rest.items batch w.split) i;
  running = ap (option_map attempt_of) (sym w.running) i;
}

others_none : (sp : Spawned) (d : DialSeen) → Gains sp.told sp.told [] × Gains d.told d.told []
others_none sp d = (gains_none sp.told, gains_none d.told)

module _ (G : Ground) (T : Table) (old new : Kept) (before now : Runner) (a b : Bench) where
  -- a batch is recorded, behind other deeds
  pub exit_recorded : (luck : Bool → Luck) (ds : List Deed) (batch : Batch) (results : List Result1) (moment : ℕ) (r : Result Did RunStop) (m : Spooled) (ready : IsReady old before)
      → ((failed : Bool) → stepped_on G T (holder_of before) (luck failed) ≡ records G.config G.moment T (holder_of before) batch ds results failed)
      → ((failed : Bool) → IsMeant G before.id (control_at before.id T.entries) (kind_in G T (holder_of before)) (luck failed))
      → ((failed : Bool) (files : FileMap) → a.spool.told ≡ Some files → StandsFor (store old).dirs T files → IsRead T before.id (luck failed))
      → ((failed : Bool) → HasSpawnerCause a.spawner.faults b.spawner.faults (luck failed))
      → ((failed : Bool) → HasDialerCause a.dialer b.dialer (luck failed))
      → flat_map asked_in ds ≡ [] → G.moment ≡ moment → IsWithout before now batch
      → HoldsTable old T → IsWhole G.config old → Reads a.spool m → m.faults ≡ a.spool.faults
      → IsPutAs old new before.id batch.places results moment ready.held.entry.control r m b.spool
      → Others G T old new before now a b ds → KeepsChildren a.spawner b.spawner before
      → Steps G T old new before now a b r
  exit_recorded luck ds batch results moment r m ready acts meant read spawner dialer quiet at w holds whole reads same put others children =
      let is = turned before.rest.items now.rest.items batch w.split in
      let untried = subst (All (IsUntried ready.held.entry.control.rows)) is ready.untried in
      let apart = subst AreAllApart is ready.apart in
      steps_asked G T old new before now a b luck ds (without_first (holder_of before)) (record_of G.config G.moment before.id batch.places results) did.Recorded r m
      acts meant read spawner dialer quiet refl refl holds whole reads same
      (subst (λ q. Put old new q did.Recorded r m b.spool)
      (ap (λ q. Record q before.id batch.places results moment) whole.terms
      ∙ ap (λ q. Record (terms_of G.config) before.id batch.places results q) (sym at)) put.put)
      others
      (on_ok r ((store new).entries ≡ map (recontrolled before.id (recorded old.terms batch.places results moment ready.held.entry.control)) (store old).entries) (IsReady new now)
      (λ e. ready_recorded old new before now ready batch.places results old.terms moment e
      w.id w.running
      (All-tail (IsUntried ready.held.entry.control.rows) batch (reverse now.rest.items) untried) apart.1 apart.0) put.entries)
      (at_rest_running now.running (λ (run : Running). Rattle.spawn_edge.specs.Spawned.IsRunningAt b.spawner run.child) w.running)
      children
      (own_rest a.spawner before now w.running)
      (λ h e. e ∙ ap (λ (q : Holder). Some q) (without_holder before now batch w))

module _ (G : Ground) (T : Table) (old new : Kept) (before now : Runner) (s s' : Spooled) (sp : Spawned) (d : DialSeen) where
  -- memory is wanting before anything is asked
  pub exit_memory : (k : Kind) → kind_in G T (holder_of before) ≡ k → acted G.config G.moment T (holder_of before) k (Rattle.queue_run.specs.Steps.Lacks stop.NoMemory) ≡ halts T (holder_of before) (By stop.NoMemory)
      → Reads s s' → s'.faults ≡ s.faults → Steps G T old new before now (bench s sp d) (bench s' sp d) (Err stop.NoMemory)
  exit_memory k kind acts reads same =
      steps_early G T old new before now (bench s sp d) (bench s' sp d) k stop.NoMemory kind acts reads (omega (arith, same))
      (record { spawner = gains_none sp.told; dialer = gains_none d.told; spawner_faults = omega arith; dialer_faults = omega arith }) same refl refl

  settled_put : (batch : Batch) (one : Result1) (moment : ℕ) (r : Result Did RunStop) (ready : IsReady old before)
      → kind_in G T (holder_of before) ≡ Settles batch one → G.moment ≡ moment → IsWithout before now batch → HoldsTable old T → IsWhole G.config old
      → IsPutAs old new before.id batch.places (alike one batch.places) moment ready.held.entry.control r s s'
      → Steps G T old new before now (bench s sp d) (bench s' sp d) r
  settled_put batch one moment r ready kind at w holds whole put =
      exit_recorded G T old new before now (bench s sp d) (bench s' sp d) Records [] batch (alike one batch.places) moment r s ready
      (λ failed. stepped_kind G T old new before now (bench s sp d) (bench s' sp d) (Settles batch one) (Records failed) kind)
      (λ failed. tt) (λ failed files e stands. tt) (λ failed. refl) (λ failed. refl) refl at w holds whole (reads_itself s) refl put
      (record { spawner = gains_none sp.told; dialer = gains_none d.told; spawner_faults = omega arith; dialer_faults = omega arith })
      (λ other ne runs. runs)

  -- a batch that needs no attempt
  pub exit_settled : (batch : Batch) (one : Result1) (moment : ℕ) (r : Result Did RunStop) (ready : IsReady old before)
      → kind_in G T (holder_of before) ≡ Settles batch one → G.moment ≡ moment → IsWithout before now batch → HoldsTable old T → IsWhole G.config old
      → IsPutOrNot old new before.id batch.places one moment ready.held.entry.control r s s' → (r ≡ Err stop.NoMemory → s' ≡ s)
      → Steps G T old new before now (bench s sp d) (bench s' sp d) r
  exit_settled batch one moment r ready kind at w holds whole put none = ⊎_elim
      (λ (e : r ≡ Err stop.NoMemory). subst (λ q. Steps G T old new before now (bench s sp d) (bench s' sp d) q) (sym e)
      (exit_memory (Settles batch one) kind refl (subst (λ (q : Spooled). Reads s q) (sym (none e)) (reads_itself s)) (ap (λ (q : Spooled). q.faults) (none e))))
      (λ p. settled_put batch one moment r ready kind at w holds whole p) put
