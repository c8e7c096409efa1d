-- What may be asked for an entry of which a row is open, of a table that its store holds.
use Rattle.std.proofs.Common.{◌≡◌, ℕ, List, [], ◌∷◌, map, Bool, true, false, not, ◌&&◌, ◌||◌, refl, sym, subst}
use Rattle.std.specs.List.{AllZip, list_all, list_any}
use Rattle.mail_base.specs.States.{has_failed, has_queued, is_failed, is_open, is_queued, wants_bounce}
use Rattle.mail_base.specs.declared.control.Control.{Control}
use Rattle.mail_base.specs.declared.control.Row.{Row}
use Rattle.mail_base.specs.declared.control.State.{State}
use Rattle.mail_base.specs.declared.control.State.TheVariants.{Queued, Sent, Failed, Returned, Dead}
use Rattle.mail_base.specs.declared.message.Back.{Back}
use Rattle.spool_store.specs.Entries.{Stored, Table}
use Rattle.spool_store.specs.Queue.{IsOpen}
use Rattle.spool_store.specs.Stores.{IsHeld}
use Rattle.spool_store.specs.declared.held.Held.{Held}
use Rattle.spool_store.proofs.Replacing.{contains_map}
use Rattle.queue_table.specs.Calls.{HoldsTable, IsAsked, store}
use Rattle.queue_table.specs.Commands.Command.{Return, Warn}
use Rattle.queue_table.specs.Soundness.{AreBounces, AreCuts, HasEntry, IsBack}
use Rattle.queue_table.specs.declared.table.Table.{Table as Kept}
use Rattle.queue_run.specs.declared.runner.Runner.{Runner}
use Rattle.queue_run.specs.Ready.{IsReady}
use Rattle.queue_run.specs.inner.Sendings.{OfEntry}

-- ---- a table that a store holds: one whose bodies are empty

abbrev stored_by : Held → Stored
stored_by h = record { id = h.entry.id; dir = h.entry.dir; control = h.entry.control; body = [] }

are_held : (hs : List Held) → AllZip IsHeld hs (map stored_by hs)
are_held [] = tt
are_held (h ∷ hs) = (record { id = refl; dir = refl; control = refl }, are_held hs)

abbrev pub table_by : Kept → Table
table_by kept = record { entries = map stored_by (store kept).entries; next = (store kept).next }

pub holds_by : (kept : Kept) → HoldsTable kept (table_by kept)
holds_by kept = record { entries = are_held (store kept).entries; next = refl }

abbrev entry_by : (kept : Kept) (r : Runner) → IsReady kept r → HasEntry (table_by kept) r.id
entry_by kept r ready = record {
  entry = stored_by ready.held;
  among = contains_map stored_by ready.held (store kept).entries ready.among;
  is = ready.is;
}

-- ---- an entry is open where a row is

open_step : (b o any all : Bool) → (b ≡ true → o ≡ true) → (any ≡ true → all ≡ false) → (b || any) ≡ true → (not o && all) ≡ false
open_step true true any all opens later e = refl
open_step true false any all opens later e = absurd (Rattle.std.proofs.lemmas.Bool.false≢true (opens refl))
open_step false true any all opens later e = refl
open_step false false any all opens later e = later e

open_rows : (p : State → Bool) → ((s : State) → p s ≡ true → is_open s ≡ true) → (rows : List Row) → list_any (λ (row : Row). p row.state) rows ≡ true → list_all (λ (row : Row). not (is_open row.state)) rows ≡ false
open_rows p opens [] e = absurd (Rattle.std.proofs.lemmas.Bool.false≢true e)
open_rows p opens (row ∷ rows) e = open_step (p row.state) (is_open row.state) (list_any (λ (row : Row). p row.state) rows) (list_all (λ (row : Row). not (is_open row.state)) rows) (opens row.state) (open_rows p opens rows) e

failed_opens : (s : State) → is_failed s ≡ true → is_open s ≡ true
failed_opens (Queued _) e = refl
failed_opens Sent e = e
failed_opens (Failed _ _) e = refl
failed_opens (Returned _) e = e
failed_opens (Dead _ _) e = e

queued_opens : (s : State) → is_queued s ≡ true → is_open s ≡ true
queued_opens (Queued _) e = refl
queued_opens Sent e = e
queued_opens (Failed _ _) e = refl
queued_opens (Returned _) e = e
queued_opens (Dead _ _) e = e

open_failed : (c : Control) → has_failed c ≡ true → IsOpen c
open_failed c e = open_rows is_failed failed_opens c.rows e

open_queued : (c : Control) → has_queued c ≡ true → IsOpen c
open_queued c e = open_rows is_queued queued_opens c.rows e

-- ---- commands

-- failed rows of a double bounce may become dead
pub asked_bury : (old : Kept) (r : Runner) (backs : List Back) (moment : ℕ) → IsReady old r → OfEntry old r.id (λ c. has_failed c ≡ true) → OfEntry old r.id (λ c. wants_bounce c ≡ false) → backs ≡ []
    → IsAsked old (Return old.terms r.id backs moment)
asked_bury old r backs moment ready failed double none = record {
  table = table_by old;
  holds = holds_by old;
  can = record {
    has = entry_by old r ready;
    waits = open_failed ready.held.entry.control (failed ready.held ready.among ready.is);
    bounces_are = subst (λ q. AreBounces q backs) (sym (double ready.held ready.among ready.is)) none;
  };
}

-- and others may be given back by a message
pub asked_return : (old : Kept) (r : Runner) (backs : List Back) (back : Back) (moment : ℕ) → IsReady old r → OfEntry old r.id (λ c. has_failed c ≡ true) → OfEntry old r.id (λ c. wants_bounce c ≡ true) → backs ≡ back ∷ [] → IsBack back
    → IsAsked old (Return old.terms r.id backs moment)
asked_return old r backs back moment ready failed single one is = record {
  table = table_by old;
  holds = holds_by old;
  can = record {
    has = entry_by old r ready;
    waits = open_failed ready.held.entry.control (failed ready.held ready.among ready.is);
    bounces_are = subst (λ q. AreBounces q backs) (sym (single ready.held ready.among ready.is)) (back, one, is);
  };
}

-- a sender may be warned of rows that are still tried
pub asked_warning : (old : Kept) (r : Runner) (backs : List Back) (back : Back) (moment : ℕ) → IsReady old r → OfEntry old r.id (λ c. has_queued c ≡ true) → backs ≡ back ∷ [] → AreCuts back.cuts
    → IsAsked old (Warn old.terms r.id backs moment)
asked_warning old r backs back moment ready queued one are = record {
  table = table_by old;
  holds = holds_by old;
  can = record {
    has = entry_by old r ready;
    waits = open_queued ready.held.entry.control (queued ready.held ready.among ready.is);
    warning = back;
    one = one;
    cuts = are;
  };
}
