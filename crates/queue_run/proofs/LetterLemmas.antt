-- What is known when a letter was made for a batch, and the exits where it isn't handed to anybody.
use Rattle.std.proofs.Common.{◌≡◌, ◌≢◌, ⊎_elim, ℕ, ◌≤◌, List, [], ◌∷◌, Bool, true, Some, Result, Err, if◌then◌else◌, refl, sym, ◌∙◌, ap, subst, arith, ne_eqb, eq-eqb, Contains}
use Rattle.std.specs.List.{AllZip}
use Rattle.std.proofs.lemmas.Bool.{cases_eq}
use Rattle.mail_base.specs.declared.control.Control.{Control}
use Rattle.mail_base.specs.declared.mailer.Mailer.{Mailer}
use Rattle.link_edge.specs.Dials.{DialSeen}
use Rattle.link_edge.specs.declared.peer.Peer.{Peer}
use Rattle.spawn_edge.specs.Spawned.{Spawned}
use Rattle.spool_disk.specs.Disk.{FileMap}
use Rattle.spool_disk.specs.Spooled.{Reads, Spooled}
use Rattle.spool_store.specs.Entries.{Stored, Table}
use Rattle.spool_store.specs.Settled.{StandsFor}
use Rattle.spool_store.specs.Stores.{IsHeld}
use Rattle.spool_store.specs.declared.held.Held.{Held}
use Rattle.spool_store.proofs.Standing.{contains_cases, contains_head, contains_tail}
use Rattle.queue_table.specs.Calls.{HoldsTable, store}
use Rattle.queue_table.specs.Commands.{control_at}
use Rattle.queue_table.specs.declared.table.Table.{Table as Kept}
use Rattle.queue_run.specs.declared.batch.Batch.{Batch}
use Rattle.queue_run.specs.declared.letter.Letter.{Letter}
use Rattle.queue_run.specs.declared.runner.Did.{Did}
use Rattle.queue_run.specs.declared.runner.RunStop.{RunStop}
use Rattle.queue_run.specs.declared.runner.RunStop.TheVariants as stop
use Rattle.queue_run.specs.declared.runner.Runner.{Runner}
use Rattle.queue_run.specs.Holders.{holder_of}
use Rattle.queue_run.specs.Kinds.{Kind, Starts, Talks}
use Rattle.queue_run.specs.Meant.{Ground, IsLetter, IsLetterOf, host_of}
use Rattle.queue_run.specs.Ready.{IsReady}
use Rattle.queue_run.specs.Results.{alike, too_large}
use Rattle.queue_run.specs.Steps.{Lacks, Outgrows, acted, is_large, lacks, outgrows, records, where_large}
use Rattle.queue_run.specs.Working.{IsBodyOf, IsWhole, Steps, bench, kind_in}
use Rattle.queue_run.specs.inner.Handed.{HasHandFault}
use Rattle.queue_run.specs.inner.Puts.{IsPutAs, IsPutOrNot}
use Rattle.queue_run.proofs.SettleLemmas.{IsWithout, exit_memory, exit_recorded}
use Rattle.queue_run.proofs.StepLemmas.{steps_early, stepped_kind}
use Rattle.queue_run.proofs.WaitLemmas.{gains_none}

-- ---- the control of an entry of the table

pub record FoundIn (hs : List Held) (ss : List Stored) (id : ℕ) : Type 0 where
  pub held : Held
  pub among : Contains hs held
  pub is : held.entry.id ≡ id
  pub at : control_at id ss ≡ Some held.entry.control

found_in : (hs : List Held) (ss : List Stored) (id : ℕ) (k : Held) → AllZip IsHeld hs ss → Contains hs k → k.entry.id ≡ id → FoundIn hs ss id
found_in [] ss id k z among is = let lt = among.1 in absurd (omega (arith, lt))
found_in (h ∷ hs) [] id k z among is = absurd z
found_in (h ∷ hs) (s ∷ ss) id k z among is = ⊎_elim
    (λ (e : s.id ≡ id). record {
      held = h;
      among = contains_head h hs;
      is = z.0.id ∙ e;
      at = ap (λ (b : Bool). if b then Some s.control else control_at id ss) (eq-eqb s.id id e) ∙ ap (λ c. Some c) (sym z.0.control);
    })
    (λ (ne : s.id ≢ id). ⊎_elim
    (λ (same : h ≡ k). absurd (ne (sym z.0.id ∙ ap (λ (q : Held). q.entry.id) same ∙ is)))
    (λ (later : Contains hs k).
    let f = found_in hs ss id k z.1 later is in record {
      held = f.held;
      among = contains_tail h f.held hs f.among;
      is = f.is;
      at = ap (λ (b : Bool). if b then Some s.control else control_at id ss) (ne_eqb s.id id ne) ∙ f.at;
    })
    (contains_cases h k hs among))
    (cases_eq s.id id)

pub found : (old : Kept) (T : Table) (r : Runner) → HoldsTable old T → IsReady old r → FoundIn (store old).entries T.entries r.id
found old T r holds ready = found_in (store old).entries T.entries r.id ready.held holds.entries ready.among ready.is

-- ---- kinds in which a letter is made

-- a letter to that mailer is made for a batch
pub record IsLettered (G : Ground) (T : Table) (before : Runner) (k : Kind) (batch : Batch) (mailer : Mailer) : Type 0 where
  pub lacks : (cause : RunStop) → acted G.config G.moment T (holder_of before) k (Lacks cause) ≡ lacks true T (holder_of before) cause
  pub outgrows : (letter : Letter) (failed : Bool) → acted G.config G.moment T (holder_of before) k (Outgrows letter failed) ≡ outgrows G.config G.moment T (holder_of before) batch mailer letter failed
  pub means : (control : Control) (letter : Letter) → IsLetter G before.id control mailer (host_of batch.resolved) letter → IsLetterOf G before.id (Some control) k letter

pub starts_lettered : (G : Ground) (T : Table) (before : Runner) (batch : Batch) (mailer : Mailer) → IsLettered G T before (Starts batch mailer) batch mailer
starts_lettered G T before batch mailer = record { lacks = λ cause. refl; outgrows = λ letter failed. refl; means = λ control letter h. h }

pub talks_lettered : (G : Ground) (T : Table) (before : Runner) (batch : Batch) (mailer : Mailer) (peers : List Peer) → IsLettered G T before (Talks batch mailer peers) batch mailer
talks_lettered G T before batch mailer peers = record { lacks = λ cause. refl; outgrows = λ letter failed. refl; means = λ control letter h. h }

-- ---- what is known when a letter was made

pub record IsHandedFor (G : Ground) (T : Table) (old : Kept) (before : Runner) (k : Kind) (s m : Spooled) (letter : Letter) : Type 0 where
  pub meant : IsLetterOf G before.id (control_at before.id T.entries) k letter
  pub read : (files : FileMap) → s.told ≡ Some files → StandsFor (store old).dirs T files → IsBodyOf T before.id letter.body
  pub reads : Reads s m
  pub same : m.faults ≡ s.faults

pub handed_for : (G : Ground) (T : Table) (old : Kept) (before : Runner) (k : Kind) (batch : Batch) (mailer : Mailer) (s m : Spooled) (letter : Letter) → IsLettered G T before k batch mailer → HoldsTable old T → IsReady old before
    → ((h : Held) → Contains (store old).entries h → h.entry.id ≡ before.id → IsLetter G before.id h.entry.control mailer (host_of batch.resolved) letter)
    → ((files : FileMap) (entries : Table) → s.told ≡ Some files → StandsFor (store old).dirs entries files → IsBodyOf entries before.id letter.body)
    → Reads s m → m.faults ≡ s.faults → IsHandedFor G T old before k s m letter
handed_for G T old before k batch mailer s m letter lettered holds ready is body reads same =
    let f = found old T before holds ready in record {
      meant = subst (λ q. IsLetterOf G before.id q k letter) (sym f.at) (lettered.means f.held.entry.control letter (is f.held f.among f.is));
      read = λ files e stands. body files T e stands;
      reads = reads;
      same = same;
    }

-- it is a letter of the step's kind
pub meant_as : (G : Ground) (T : Table) (before : Runner) (k : Kind) (letter : Letter) → kind_in G T (holder_of before) ≡ k → IsLetterOf G before.id (control_at before.id T.entries) k letter → IsLetterOf G before.id (control_at before.id T.entries) (kind_in G T (holder_of before)) letter
meant_as G T before k letter kind h = subst (λ q. IsLetterOf G before.id (control_at before.id T.entries) q letter) (sym kind) h

module _ (G : Ground) (T : Table) (old new : Kept) (before now : Runner) (K : Kind) (batch : Batch) (mailer : Mailer) (lettered : IsLettered G T before K batch mailer) (s m s' : Spooled) (sp : Spawned) (d : DialSeen) where
  -- the letter can't be made
  pub exit_unhanded : (e : RunStop) → kind_in G T (holder_of before) ≡ K → Reads s m → s.faults ≤ m.faults → HasHandFault s.faults m.faults (Err e)
      → Steps G T old old before now (bench s sp d) (bench m sp d) (Err e)
  exit_unhanded stop.SpoolFault kind reads later fault =
      steps_early G T old old before now (bench s sp d) (bench m sp d) K stop.SpoolFault kind (lettered.lacks stop.SpoolFault) reads later
      (record { spawner = gains_none sp.told; dialer = gains_none d.told; spawner_faults = omega arith; dialer_faults = omega arith }) fault refl refl
  exit_unhanded stop.NoMemory kind reads later fault = exit_memory G T old old before now s m sp d K kind (lettered.lacks stop.NoMemory) reads fault
  exit_unhanded stop.IdsSpent kind reads later fault = absurd fault
  exit_unhanded stop.FilesFault kind reads later fault = absurd fault

  outgrown_put : (letter : Letter) (moment : ℕ) (r : Result Did RunStop) (ready : IsReady old before) → kind_in G T (holder_of before) ≡ K → is_large mailer letter ≡ true
      → IsHandedFor G T old before K s m letter → G.moment ≡ moment → IsWithout before now batch → HoldsTable old T → IsWhole G.config old
      → IsPutAs old new before.id batch.places (alike too_large batch.places) moment ready.held.entry.control r m s'
      → Steps G T old new before now (bench s sp d) (bench s' sp d) r
  outgrown_put letter moment r ready kind large handed at w holds whole put =
      exit_recorded G T old new before now (bench s sp d) (bench s' sp d) (λ failed. Outgrows letter failed) [] batch (alike too_large batch.places) moment r m ready
      (λ failed. stepped_kind G T old new before now (bench s sp d) (bench s' sp d) K (Outgrows letter failed) kind ∙ lettered.outgrows letter failed
      ∙ ap (λ q. where_large q T (holder_of before) (records G.config G.moment T (holder_of before) batch [] (alike too_large batch.places) failed)) large)
      (λ failed. meant_as G T before K letter kind handed.meant) (λ failed files e stands. handed.read files e stands) (λ failed. refl) (λ failed. refl) refl at w holds whole handed.reads handed.same put
      (record { spawner = gains_none sp.told; dialer = gains_none d.told; spawner_faults = omega arith; dialer_faults = omega arith })
      (λ other ne runs. runs)

  -- the text is too large
  pub exit_outgrown : (letter : Letter) (moment : ℕ) (r : Result Did RunStop) (ready : IsReady old before) → kind_in G T (holder_of before) ≡ K → is_large mailer letter ≡ true
      → IsHandedFor G T old before K s m letter → G.moment ≡ moment → IsWithout before now batch → HoldsTable old T → IsWhole G.config old
      → IsPutOrNot old new before.id batch.places too_large moment ready.held.entry.control r m s' → (r ≡ Err stop.NoMemory → s' ≡ m)
      → Steps G T old new before now (bench s sp d) (bench s' sp d) r
  exit_outgrown letter moment r ready kind large handed at w holds whole put none = ⊎_elim
      (λ (e : r ≡ Err stop.NoMemory). subst (λ q. Steps G T old new before now (bench s sp d) (bench s' sp d) q) (sym e)
      (exit_memory G T old new before now s s' sp d K kind (lettered.lacks stop.NoMemory) (subst (λ (q : Spooled). Reads s q) (sym (none e)) handed.reads) (ap (λ (q : Spooled). q.faults) (none e) ∙ handed.same)))
      (λ p. outgrown_put letter moment r ready kind large handed at w holds whole p) put
