-- Messages that are taken in leave each runner ready.
use Rattle.std.proofs.Common.{◌≡◌, ⊎_elim, ℕ, List, [], ◌∷◌, Option, Some, None, true, Result, sym, ◌∙◌, subst, arith}
use Rattle.std.specs.Prelude.{All, Contains, IfSome, is_ok, reverse}
use Rattle.std.specs.List.{AllZip}
use Rattle.spool_store.specs.Entries.{Stored, Table}
use Rattle.spool_store.specs.Queue.{IsOpen}
use Rattle.spool_store.specs.Stores.{IsHeld}
use Rattle.spool_store.specs.declared.held.Held.{Held}
use Rattle.spool_store.proofs.Standing.{contains_cases, contains_head, contains_tail}
use Rattle.mail_base.specs.declared.control.Control.{Control}
use Rattle.queue_table.specs.Calls.{HoldsTable, IsHeldIn, IsStoredIn, store}
use Rattle.queue_table.specs.Commands.{after}
use Rattle.queue_table.specs.Commands.Command.{Accept, Record, Return, Warn}
use Rattle.queue_table.specs.Reserves.{IsReserved}
use Rattle.queue_table.specs.Soundness.{IsTried}
use Rattle.queue_table.specs.declared.recording.Reserved.{Reserved}
use Rattle.queue_table.specs.declared.table.Table.{Table as Kept}
use Rattle.queue_table.proofs.StayLemmas.{command_makes}
use Rattle.queue_run.specs.Deeds.{Asks, Claims, Files, Frees, Polls, Starts, Talks}
use Rattle.queue_run.specs.Ready.{IsAttempt, IsUntried}
use Rattle.queue_run.specs.declared.batch.Batch.{Batch}
use Rattle.queue_run.specs.declared.runner.Running.{Running}
use Rattle.mail_core.specs.declared.caller.Caller.{Caller}
use Rattle.mail_core.specs.declared.intake.Intake.{Intake}
use Rattle.mail_core.specs.declared.next.Next.{Next}
use Rattle.mail_core.specs.declared.serving.CoreStop.{CoreStop}
use Rattle.mail_core.specs.Crews.{KeepsReady}
use Rattle.mail_core.specs.Effects.{Does, Effect, HangsUp, Sends, Takes, Ticks, table_after}
use Rattle.mail_core.specs.Guests.{Guest, with_bytes}
use Rattle.mail_core.specs.Judges.{JudgeSeen}
use Rattle.mail_core.specs.Machine.{all_answered}
use Rattle.mail_core.specs.Seen.{Seen}
use Rattle.mail_core.specs.Sites.{Site}
use Rattle.mail_core.specs.Standing.{Serves}
use Rattle.mail_core.specs.inner.Going.{Feeds}
use Rattle.mail_core.proofs.LeadLemmas.{AreTaking, all_leads}

-- ---- what a store holds of a table

later_held : (h : Held) (hs : List Held) (s : Stored) → IsHeldIn hs s → IsHeldIn (h ∷ hs) s
later_held h hs s k = record { one = k.one; among = contains_tail h k.one hs k.among; is = k.is }

later_stored : (t : Stored) (ss : List Stored) (h : Held) → IsStoredIn ss h → IsStoredIn (t ∷ ss) h
later_stored t ss h k = record { one = k.one; among = contains_tail t k.one ss k.among; is = k.is }

held_in : (hs : List Held) (ss : List Stored) (s : Stored) → AllZip IsHeld hs ss → Contains ss s → IsHeldIn hs s
held_in [] [] s z k = absurd (omega (arith, k.1))
held_in [] (t ∷ ss) s z k = absurd z
held_in (h ∷ hs) [] s z k = absurd z
held_in (h ∷ hs) (t ∷ ss) s z k = ⊎_elim
    (λ (e : t ≡ s). record { one = h; among = contains_head h hs; is = subst (IsHeld h) e z.0 })
    (λ (m : Contains ss s). later_held h hs s (held_in hs ss s z.1 m))
    (contains_cases t s ss k)

stored_in : (hs : List Held) (ss : List Stored) (h : Held) → AllZip IsHeld hs ss → Contains hs h → IsStoredIn ss h
stored_in [] [] h z k = absurd (omega (arith, k.1))
stored_in [] (t ∷ ss) h z k = absurd z
stored_in (x ∷ hs) [] h z k = absurd z
stored_in (x ∷ hs) (t ∷ ss) h z k = ⊎_elim
    (λ (e : x ≡ h). record { one = t; among = contains_head t ss; is = subst (λ (q : Held). IsHeld q t) e z.0 })
    (λ (m : Contains hs h). later_stored t ss h (stored_in hs ss h z.1 m))
    (contains_cases x h hs k)

-- ---- entries stay

-- each entry of a table is in another one
abbrev pub Keeps : Table → Table → Type 0
Keeps old new = (s : Stored) → Contains old.entries s → Contains new.entries s

-- an entry of the store, by the one of the table before and after
record IsCarried (new : List Held) (h : Held) : Type 0 where
  one : Held
  among : Contains new one
  id : one.entry.id ≡ h.entry.id
  dir : one.entry.dir ≡ h.entry.dir
  control : one.entry.control ≡ h.entry.control

module _ (old new : Kept) (table next : Table) (was : HoldsTable old table) (is : HoldsTable new next) (keeps : Keeps table next) where
  carried : (h : Held) → Contains (store old).entries h → IsCarried (store new).entries h
  carried h k =
      let s = stored_in (store old).entries table.entries h was.entries k in
      let now = held_in (store new).entries next.entries s.one is.entries (keeps s.one s.among) in
      record { one = now.one; among = now.among; id = now.is.id ∙ sym s.is.id; dir = now.is.dir ∙ sym s.is.dir; control = now.is.control ∙ sym s.is.control }

  reserved_on : (reserved : Reserved) → IsReserved (store old).entries reserved → IsReserved (store new).entries reserved
  reserved_on reserved r =
      let now = carried r.can.held r.can.among in
      record {
        can = record {
          held = now.one;
          among = now.among;
          is = now.id ∙ r.can.is;
          waits = subst IsOpen (sym now.control) r.can.waits;
          tried = subst (λ (c : Control). All (IsTried c.rows) reserved.rows) (sym now.control) r.can.tried;
        };
        control = r.control ∙ sym now.control;
        empty = r.empty;
        fits = r.fits;
      }

  attempt_on : (h k : Held) (rest : List Batch) (o : Option Running) → k.entry.id ≡ h.entry.id → k.entry.control ≡ h.entry.control → IfSome o (IsAttempt old h.entry rest) → IfSome o (IsAttempt new k.entry rest)
  attempt_on h k rest None id control a = tt
  attempt_on h k rest (Some r) id control a = record {
    reserved = reserved_on r.reserved a.reserved;
    own = a.own ∙ sym id;
    control = a.control ∙ sym control;
    each = a.each;
    apart = a.apart;
  }

  -- a runner is ready still
  pub ready_on : KeepsReady old new
  ready_on r ready =
      let now = carried ready.held ready.among in record {
        held = now.one;
        among = now.among;
        is = now.id ∙ ready.is;
        untried = subst (λ (c : Control). All (IsUntried c.rows) (reverse r.rest.items)) (sym now.control) ready.untried;
        apart = ready.apart;
        running = attempt_on ready.held now.one (reverse r.rest.items) r.running now.id now.control ready.running;
      }

-- ---- messages that are taken in

none_some : (id : ℕ) → None ≡ Some id → ⊥
none_some id e = cc e

taking_keeps : (table : Table) (effects : List Effect) → AreTaking effects → Keeps table (table_after table effects)
taking_keeps table [] taking s k = k
taking_keeps table (Does (Asks (Accept terms message cuts moment)) ∷ effects) taking s k =
    let command = Accept terms message cuts moment in
    taking_keeps (after table command) effects taking.1 s ((command_makes table command).stays s k (none_some s.id))
taking_keeps table (Does (Asks (Record terms other places results moment)) ∷ effects) taking s k = absurd taking.0
taking_keeps table (Does (Asks (Return terms other backs moment)) ∷ effects) taking s k = absurd taking.0
taking_keeps table (Does (Asks (Warn terms other backs moment)) ∷ effects) taking s k = absurd taking.0
taking_keeps table (Does (Claims other rows) ∷ effects) taking s k = absurd taking.0
taking_keeps table (Does (Frees other) ∷ effects) taking s k = absurd taking.0
taking_keeps table (Does (Files other) ∷ effects) taking s k = absurd taking.0
taking_keeps table (Does (Starts other places start launch) ∷ effects) taking s k = absurd taking.0
taking_keeps table (Does (Polls other child poll) ∷ effects) taking s k = absurd taking.0
taking_keeps table (Does (Talks other places talk) ∷ effects) taking s k = absurd taking.0
taking_keeps table (Takes event ∷ effects) taking s k = taking_keeps table effects taking.1 s k
taking_keeps table (Ticks reading ∷ effects) taking s k = taking_keeps table effects taking.1 s k
taking_keeps table (Sends session text whole ∷ effects) taking s k = taking_keeps table effects taking.1 s k
taking_keeps table (HangsUp session ∷ effects) taking s k = taking_keeps table effects taking.1 s k

-- a piece that was answered leaves each runner ready
pub ready_fed : (j : JudgeSeen) (site : Site) (moment : ℕ) (table : Table) (g : Guest) (bytes : List ℕ) (a b : Seen) (old new : Intake) (caller : Caller) (fed : Result Next CoreStop) → Serves site old table → Feeds j site moment table g bytes a b new caller fed → is_ok fed ≡ true
    → KeepsReady old.table new.table
ready_fed j site moment table g bytes a b old new caller fed was h on =
    let d = all_answered site moment table (with_bytes g bytes) h.choices in
    let leads = all_leads j site moment table (with_bytes g bytes) h.choices in
    ready_on old.table new.table table d.table was.stores.holds (h.serves on).stores.holds (subst (Keeps table) (sym leads.table) (taking_keeps table d.effects leads.taking))
