-- The exits of failed rows that are given back, and of warnings.
use Rattle.std.proofs.Common.{◌≡◌, ◌⊎◌, ℕ, ◌<◌, ◌≤◌, ◌+◌, List, [], ◌∷◌, length, Some, None, Result, Ok, Err, refl, sym, ◌∙◌, ap, subst, arith, Contains, false}
use Rattle.std.specs.Prelude.{◌↔◌, IsErrOf, sum_by}
use Rattle.mail_base.specs.declared.control.Control.{Control}
use Rattle.mail_base.specs.declared.control.Entry.{Entry}
use Rattle.mail_base.specs.declared.fault.StoreFault.{StoreFault}
use Rattle.mail_base.specs.declared.fault.StoreFault.TheVariants as fault
use Rattle.mail_base.specs.declared.id.TheConstants.Id.{MOST}
use Rattle.mail_base.specs.declared.message.Back.{Back}
use Rattle.link_edge.specs.Dials.{DialSeen}
use Rattle.spawn_edge.specs.Spawned.{Spawned}
use Rattle.spool_disk.specs.Disk.{FileMap}
use Rattle.spool_disk.specs.Spooled.{Reads, Spooled}
use Rattle.spool_store.specs.Entries.{Table}
use Rattle.spool_store.specs.Settled.{StandsFor}
use Rattle.spool_store.specs.declared.held.Held.{Held}
use Rattle.queue_table.specs.Calls.{CarriesOut, HoldsTable, IsSame, store}
use Rattle.queue_table.specs.Commands.{control_at}
use Rattle.queue_table.specs.Commands.Command.{Return, Warn}
use Rattle.queue_table.specs.Directories.{terms_of}
use Rattle.queue_table.specs.declared.table.Table.{Table as Kept}
use Rattle.dsn_bounce.specs.Returned.{IsBounce, IsWarning}
use Rattle.queue_run.specs.Backs.{Drawer, IsDrawnIn, IsSteady}
use Rattle.queue_run.specs.declared.runner.RunStop.{RunStop}
use Rattle.queue_run.specs.declared.runner.RunStop.TheVariants as stop
use Rattle.queue_run.specs.declared.runner.Runner.{Runner}
use Rattle.queue_run.specs.Holders.{holder_of}
use Rattle.queue_run.specs.Kinds.{Kind, Returns, Warns}
use Rattle.queue_run.specs.Meant.{Ground, IsBounceOf, IsWarningOf}
use Rattle.queue_run.specs.Ready.{IsReady}
use Rattle.queue_run.specs.Steps.{By, Gives, Lacks, Tells, acted, halts}
use Rattle.queue_run.specs.Working.{HasSpoolCause, IsBodyOf, IsWhole, Steps, bench, kind_in}
use Rattle.queue_run.specs.inner.Sendings.{HasDrawFault, HasReadFault, IsBackMade}
use Rattle.queue_run.proofs.SendLemmas.{exit_sent, sent_as, stays_returned, stays_warned}
use Rattle.queue_run.proofs.LetterLemmas.{found}
use Rattle.queue_run.proofs.StepLemmas.{Others, steps_early}
use Rattle.queue_run.proofs.WaitLemmas.{gains_none}

-- ---- what draws rows

pub steady_itself : (d : Drawer) → IsSteady d d
steady_itself d = record { tells = refl; stays = λ tells receiver rows. ((λ x. x), (λ x. x)); later = omega arith }

-- a body that wasn't read: no rows were drawn
pub drawn_unread : (d : Drawer) (a b : ℕ) (cause : RunStop) → HasReadFault {T = List ℕ} a b (Err cause) → IsDrawnIn d d (Err cause)
drawn_unread d a b stop.SpoolFault h = record { steady = steady_itself d; cause = refl }
drawn_unread d a b stop.NoMemory h = record { steady = steady_itself d; cause = refl }
drawn_unread d a b stop.FilesFault h = absurd h
drawn_unread d a b stop.IdsSpent h = absurd h

-- a message that wasn't made
pub drawn_unmade : (d e : Drawer) (cause : RunStop) → IsSteady d e → HasDrawFault {T = Back} d.answerer.faults e.answerer.faults (Err cause) → IsDrawnIn d e (Err cause)
drawn_unmade d e stop.FilesFault steady h = record { steady = steady; cause = h }
drawn_unmade d e stop.NoMemory steady h = record { steady = steady; cause = h }
drawn_unmade d e stop.SpoolFault steady h = absurd h
drawn_unmade d e stop.IdsSpent steady h = absurd h

-- one that was sent, or failed at the table
pub drawn_sent : (d e : Drawer) (r : Result (Unit {0}) StoreFault) → IsSteady d e → e.answerer.faults ≡ d.answerer.faults → IsDrawnIn d e (sent_as r)
drawn_sent d e (Ok done) steady same = record { steady = steady; cause = same }
drawn_sent d e (Err fault.SpoolFault) steady same = record { steady = steady; cause = same }
drawn_sent d e (Err fault.IdsSpent) steady same = record { steady = steady; cause = same }
drawn_sent d e (Err fault.NoMemory) steady same = record { steady = steady; cause = same }

-- ---- exits

-- the control of an entry that was looked up
pub control_is : (old : Kept) (T : Table) (before : Runner) (entry : Entry) → HoldsTable old T → IsReady old before → ((h : Held) → Contains (store old).entries h → h.entry.id ≡ before.id → entry ≡ h.entry)
    → control_at before.id T.entries ≡ Some entry.control
control_is old T before entry holds ready is =
    let f = found old T before holds ready in
    f.at ∙ ap (λ (q : Entry). Some q.control) (sym (is f.held f.among f.is))

module _ (G : Ground) (T : Table) (old new : Kept) (before : Runner) (s m s' : Spooled) (sp : Spawned) (d : DialSeen) where
  others_none : Others G T old old before before (bench s sp d) (bench m sp d) []
  others_none = record { spawner = gains_none sp.told; dialer = gains_none d.told; spawner_faults = omega arith; dialer_faults = omega arith }

  early : (k : Kind) (cause : RunStop) → kind_in G T (holder_of before) ≡ k → acted G.config G.moment T (holder_of before) k (Lacks cause) ≡ halts T (holder_of before) (By cause)
      → Reads s m → s.faults ≤ m.faults → HasSpoolCause (bench s sp d) (bench m sp d) (Err cause) → Steps G T old old before before (bench s sp d) (bench m sp d) (Err cause)
  early k cause kind acts reads later spool = steps_early G T old old before before (bench s sp d) (bench m sp d) k cause kind acts reads later others_none spool refl refl

  -- the body wasn't read
  pub exit_unread : (cause : RunStop) → kind_in G T (holder_of before) ≡ Returns → Reads s m → s.faults ≤ m.faults → HasReadFault {T = List ℕ} s.faults m.faults (Err cause)
      → Steps G T old old before before (bench s sp d) (bench m sp d) (Err cause)
  exit_unread stop.SpoolFault kind reads later h = early Returns stop.SpoolFault kind refl reads later h
  exit_unread stop.NoMemory kind reads later h = early Returns stop.NoMemory kind refl reads later h
  exit_unread stop.FilesFault kind reads later h = absurd h
  exit_unread stop.IdsSpent kind reads later h = absurd h

  -- the bounce wasn't made
  pub exit_unmade : (a b : ℕ) (cause : RunStop) → kind_in G T (holder_of before) ≡ Returns → Reads s m → m.faults ≡ s.faults → HasDrawFault {T = Back} a b (Err cause)
      → Steps G T old old before before (bench s sp d) (bench m sp d) (Err cause)
  exit_unmade a b stop.FilesFault kind reads same h = early Returns stop.FilesFault kind refl reads (omega (arith, same)) same
  exit_unmade a b stop.NoMemory kind reads same h = early Returns stop.NoMemory kind refl reads (omega (arith, same)) same
  exit_unmade a b stop.SpoolFault kind reads same h = absurd h
  exit_unmade a b stop.IdsSpent kind reads same h = absurd h

  -- the warning wasn't made
  pub exit_unwarned : (a b : ℕ) (cause : RunStop) → kind_in G T (holder_of before) ≡ Warns → Reads s m → m.faults ≡ s.faults → HasDrawFault {T = Back} a b (Err cause)
      → Steps G T old old before before (bench s sp d) (bench m sp d) (Err cause)
  exit_unwarned a b stop.FilesFault kind reads same h = early Warns stop.FilesFault kind refl reads (omega (arith, same)) same
  exit_unwarned a b stop.NoMemory kind reads same h = early Warns stop.NoMemory kind refl reads (omega (arith, same)) same
  exit_unwarned a b stop.SpoolFault kind reads same h = absurd h
  exit_unwarned a b stop.IdsSpent kind reads same h = absurd h

  abbrev Spent : Result (Unit {0}) StoreFault → List Back → Type 0
  Spent r backs = IsErrOf r fault.IdsSpent ↔ ((store old).broken ≡ false × (MOST + 1 < (store old).next + sum_by (λ (back : Back). length back.cuts) backs))

  abbrev Refused : Result (Unit {0}) StoreFault → Type 1
  Refused r = (IsErrOf r fault.NoMemory ⊎ IsErrOf r fault.IdsSpent) → IsSame old new × (s' ≡ m)

  -- failed rows are given back
  pub exit_returned : (r : Result (Unit {0}) StoreFault) (control : Control) (body : List ℕ) (backs : List Back) (back : Back) → kind_in G T (holder_of before) ≡ Returns
      → IsReady old before → before.rest.items ≡ [] → before.running ≡ None → HoldsTable old T → IsWhole G.config old → control_at before.id T.entries ≡ Some control
      → IsBackMade G.drawer G.config G.maps control (IsBounce G.config control body G.moment) back → backs ≡ back ∷ []
      → ((files : FileMap) → s.told ≡ Some files → StandsFor (store old).dirs T files → IsBodyOf T before.id body) → Reads s m → m.faults ≡ s.faults
      → CarriesOut old new (Return old.terms before.id backs G.moment) r m s' → Refused r → Spent r backs
      → Steps G T old new before before (bench s sp d) (bench s' sp d) (sent_as r)
  exit_returned r control body backs back kind ready rest running holds whole at made one read reads same carries refused spends =
      let c = Return (terms_of G.config) before.id (back ∷ []) G.moment in
      exit_sent G T old new before s m s' sp d Returns (λ failed. Gives body made.rows.rows back failed) (back ∷ []) c r
      (record {
        kind = kind;
        acts = λ failed. refl;
        lacks = refl;
        meant = λ failed. subst (λ q. IsBounceOf G q (control_at before.id T.entries) body made.rows.rows back) (sym kind)
            (subst (λ q. IsBounceOf G Returns q body made.rows.rows back) (sym at) (made.message, made.rows.sent));
        read = λ failed. read;
        spawner = λ failed. refl;
        dialer = λ failed. refl;
        changes = refl;
        stays = stays_returned old T before (terms_of G.config) (back ∷ []) G.moment holds ready;
        rest = rest;
        running = running;
        holds = holds;
        whole = whole;
        reads = reads;
        same = same;
      })
      (subst (λ q. CarriesOut old new q r m s') (ap (λ q. Return q before.id backs G.moment) whole.terms ∙ ap (λ q. Return (terms_of G.config) before.id q G.moment) one) carries)
      refused (subst (Spent r) one spends)

  -- the sender is warned
  pub exit_warned : (r : Result (Unit {0}) StoreFault) (control : Control) (backs : List Back) (back : Back) → kind_in G T (holder_of before) ≡ Warns
      → IsReady old before → before.rest.items ≡ [] → before.running ≡ None → HoldsTable old T → IsWhole G.config old → control_at before.id T.entries ≡ Some control
      → IsBackMade G.drawer G.config G.maps control (IsWarning G.config control G.moment) back → backs ≡ back ∷ []
      → Reads s m → m.faults ≡ s.faults
      → CarriesOut old new (Warn old.terms before.id backs G.moment) r m s' → Refused r → Spent r backs
      → Steps G T old new before before (bench s sp d) (bench s' sp d) (sent_as r)
  exit_warned r control backs back kind ready rest running holds whole at made one reads same carries refused spends =
      let c = Warn (terms_of G.config) before.id (back ∷ []) G.moment in
      exit_sent G T old new before s m s' sp d Warns (λ failed. Tells made.rows.rows back failed) (back ∷ []) c r
      (record {
        kind = kind;
        acts = λ failed. refl;
        lacks = refl;
        meant = λ failed. subst (λ q. IsWarningOf G q (control_at before.id T.entries) made.rows.rows back) (sym kind)
            (subst (λ q. IsWarningOf G Warns q made.rows.rows back) (sym at) (made.message, made.rows.sent));
        read = λ failed files e stands. tt;
        spawner = λ failed. refl;
        dialer = λ failed. refl;
        changes = refl;
        stays = stays_warned old T before (terms_of G.config) (back ∷ []) G.moment holds ready;
        rest = rest;
        running = running;
        holds = holds;
        whole = whole;
        reads = reads;
        same = same;
      })
      (subst (λ q. CarriesOut old new q r m s') (ap (λ q. Warn q before.id backs G.moment) whole.terms ∙ ap (λ q. Warn (terms_of G.config) before.id q G.moment) one) carries)
      refused (subst (Spent r) one spends)
