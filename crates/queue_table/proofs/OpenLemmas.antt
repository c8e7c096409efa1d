-- What is asked of an entry of a table that a store holds.
use Rattle.std.proofs.Common.{◌≡◌, ℕ, List, [], ◌∷◌, Bool, true, false, refl, subst, sym, Contains}
use Rattle.std.specs.Prelude.{All, not, ◌&&◌, ◌||◌}
use Rattle.std.specs.List.{list_all, list_any}
use Rattle.std.proofs.lemmas.Bool.{false≢true}
use Rattle.mail_base.specs.States.{has_failed, has_queued, is_failed, is_open, is_queued, wants_bounce}
use Rattle.mail_base.specs.declared.control.Control.{Control}
use Rattle.mail_base.specs.declared.control.Row.{Row}
use Rattle.mail_base.specs.declared.control.State.{State}
use Rattle.mail_base.specs.declared.control.State.TheVariants.{Queued, Sent, Failed, Returned, Dead}
use Rattle.mail_base.specs.declared.message.Back.{Back}
use Rattle.spool_store.specs.Entries.{Stored, Table}
use Rattle.spool_store.specs.Queue.{IsOpen}
use Rattle.queue_table.specs.Calls.{HoldsTable, IsAsked, store}
use Rattle.queue_table.specs.Commands.Command.{Return, Warn}
use Rattle.queue_table.specs.Reserves.{CanReserve}
use Rattle.queue_table.specs.Soundness.{AreBounces, AreCuts, IsTried}
use Rattle.queue_table.specs.declared.table.Table.{Table as Kept}
use Rattle.queue_table.specs.declared.terms.Terms.{Terms}
use Rattle.queue_table.proofs.HoldingLemmas.{held_in}

-- a failed row is open, and so is one that is tried
failed_open : (s : State) (any all : Bool) → (any ≡ true → all ≡ false) → (is_failed s || any) ≡ true → (not (is_open s) && all) ≡ false
failed_open (Queued _) any all rest e = refl
failed_open Sent any all rest e = rest e
failed_open (Failed _ _) any all rest e = refl
failed_open (Returned _) any all rest e = rest e
failed_open (Dead _ _) any all rest e = rest e

queued_open : (s : State) (any all : Bool) → (any ≡ true → all ≡ false) → (is_queued s || any) ≡ true → (not (is_open s) && all) ≡ false
queued_open (Queued _) any all rest e = refl
queued_open Sent any all rest e = rest e
queued_open (Failed _ _) any all rest e = refl
queued_open (Returned _) any all rest e = rest e
queued_open (Dead _ _) any all rest e = rest e

failed_rows : (rows : List Row) → list_any (λ (row : Row). is_failed row.state) rows ≡ true → list_all (λ (row : Row). not (is_open row.state)) rows ≡ false
failed_rows [] e = absurd (false≢true e)
failed_rows (row ∷ rows) e = failed_open row.state (list_any (λ (r : Row). is_failed r.state) rows) (list_all (λ (r : Row). not (is_open r.state)) rows) (failed_rows rows) e

queued_rows : (rows : List Row) → list_any (λ (row : Row). is_queued row.state) rows ≡ true → list_all (λ (row : Row). not (is_open row.state)) rows ≡ false
queued_rows [] e = absurd (false≢true e)
queued_rows (row ∷ rows) e = queued_open row.state (list_any (λ (r : Row). is_queued r.state) rows) (list_all (λ (r : Row). not (is_open r.state)) rows) (queued_rows rows) e

failed_waits : (c : Control) → has_failed c ≡ true → IsOpen c
failed_waits c e = failed_rows c.rows e

queued_waits : (c : Control) → has_queued c ≡ true → IsOpen c
queued_waits c e = queued_rows c.rows e

-- so an entry's failed rows may be given back by what its mark wants
pub return_asked : (kept : Kept) (table : Table) (s : Stored) (terms : Terms) (bounces : List Back) (moment : ℕ) → HoldsTable kept table → Contains table.entries s → has_failed s.control ≡ true → AreBounces (wants_bounce s.control) bounces → IsAsked kept (Return terms s.id bounces moment)
return_asked kept table s terms bounces moment holds among failed are = record {
  table = table;
  holds = holds;
  can = record { has = record { entry = s; among = among; is = refl }; waits = failed_waits s.control failed; bounces_are = are };
}

-- a warning may be sent where a row is tried
pub warn_asked : (kept : Kept) (table : Table) (s : Stored) (terms : Terms) (warning : Back) (moment : ℕ) → HoldsTable kept table → Contains table.entries s → has_queued s.control ≡ true → AreCuts warning.cuts → IsAsked kept (Warn terms s.id (warning ∷ []) moment)
warn_asked kept table s terms warning moment holds among queued cuts = record {
  table = table;
  holds = holds;
  can = record { has = record { entry = s; among = among; is = refl }; waits = queued_waits s.control queued; warning = warning; one = refl; cuts = cuts };
}

-- and its tried rows may be reserved
pub reserve_asked : (kept : Kept) (table : Table) (s : Stored) (places : List ℕ) → HoldsTable kept table → Contains table.entries s → has_queued s.control ≡ true → All (IsTried s.control.rows) places → CanReserve (store kept).entries s.id places
reserve_asked kept table s places holds among queued tried =
    let h = held_in (store kept).entries table.entries s holds.entries among in
    record {
      held = h.one;
      among = h.among;
      is = h.is.id;
      waits = subst IsOpen (sym h.is.control) (queued_waits s.control queued);
      tried = subst (λ (c : Control). All (IsTried c.rows) places) (sym h.is.control) tried;
    }
