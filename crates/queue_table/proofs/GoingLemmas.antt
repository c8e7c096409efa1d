-- In a command a row goes where it may, and no entry is taken out.
use Rattle.std.proofs.Common.{◌≡◌, ℕ, zero, suc, ◌+◌, ◌≤◌, List, [], ◌∷◌, map, length, Option, Some, Bool, true, false, refl, sym, subst, arith}
use Rattle.std.specs.Prelude.{All}
use Rattle.std.specs.List.{AllZip}
use Rattle.std.proofs.lemmas.List.{append-nil}
use Rattle.std.proofs.lemmas.List.Elements.{All-head, All-tail, All-nil, All-cons, All-append}
use Rattle.mail_base.specs.declared.control.Control.{Control}
use Rattle.mail_base.specs.declared.control.Draft.{Draft}
use Rattle.mail_base.specs.declared.control.Parent.{Parent}
use Rattle.mail_base.specs.declared.control.Row.{Row}
use Rattle.mail_base.specs.declared.control.State.{State}
use Rattle.mail_base.specs.declared.control.State.TheVariants.{Queued, Sent, Failed, Returned, Dead}
use Rattle.mail_base.specs.declared.message.Back.{Back}
use Rattle.mail_base.specs.declared.message.Cut.{Cut}
use Rattle.mail_base.specs.declared.message.Message.{Message}
use Rattle.mail_base.specs.declared.outcome.Result1.{Result1}
use Rattle.mail_base.specs.declared.outcome.Result1.TheVariants.{Sent as WasSent, Deferred as WasDeferred, Failed as HasFailed}
use Rattle.spool_store.specs.Entries.{Stored, Table, replaced, with_control}
use Rattle.spool_store.specs.Keepers.{after_replace}
use Rattle.spool_store.specs.Writes.{numbered, stored, heir}
use Rattle.queue_table.specs.Commands.{Command, after, brought, control_at, with_children, with_entry, drafts_of, draft_of}
use Rattle.queue_table.specs.Commands.Command.{Accept, Record, Return, Warn}
use Rattle.mail_base.specs.States.{is_queued}
use Rattle.queue_table.specs.Results.{is_old, recorded, restated, state_after, with_results, given_back, with_returns, with_warning}
use Rattle.queue_table.specs.Soundness.{CanDo, IsSound, EntryGoes, Goes, stays, goes_on, was_sent, has_failed, went_back, died, HasEntry, IsTried, RowGoes, TableGoes}
use Rattle.queue_table.specs.declared.terms.Terms.{Terms}
use Rattle.queue_table.proofs.EntryLemmas.{changed_each, zip_each, found}

-- a row that is still tried goes where its result leads
after_try : (before : State) (old : Bool) (r : Result1) → is_queued before ≡ true → Goes before (state_after old r)
after_try (Queued note) old WasSent e = was_sent note
after_try (Queued note) true (WasDeferred other) e = has_failed note _ other
after_try (Queued note) false (WasDeferred other) e = goes_on note (Some other)
after_try (Queued note) old (HasFailed status other) e = has_failed note status other
after_try Sent old r e = absurd (cc e)
after_try (Failed status note) old r e = absurd (cc e)
after_try (Returned id) old r e = absurd (cc e)
after_try (Dead status note) old r e = absurd (cc e)

-- a failed row goes back, or is dead
after_return : (double : Bool) (id : ℕ) (s : State) → Goes s (given_back double id s)
after_return double id (Queued note) = stays (Queued note)
after_return double id Sent = stays Sent
after_return false id (Failed status note) = went_back status note id
after_return true id (Failed status note) = died status note
after_return double id (Returned other) = stays (Returned other)
after_return double id (Dead status note) = stays (Dead status note)

rows_stay : (rows : List Row) → AllZip RowGoes rows rows
rows_stay [] = tt
rows_stay (row ∷ rows) = (record { address = refl; primary = refl; state = stays row.state }, rows_stay rows)

row_tried : (rows : List Row) (row : Row) (place : ℕ) → IsTried (row ∷ rows) (suc place) → IsTried rows place
row_tried rows row place h = record { within = omega (arith, h.within); queued = h.queued }

restated_goes : (place : ℕ) (old : Bool) (r : Result1) (xs ys : List Row) → AllZip RowGoes xs ys → IsTried xs place → AllZip RowGoes xs (restated place (state_after old r) ys)
restated_goes place old r [] [] z h = tt
restated_goes place old r [] (y ∷ ys) z h = absurd z
restated_goes place old r (x ∷ xs) [] z h = absurd z
restated_goes zero old r (x ∷ xs) (y ∷ ys) z h = (record { address = z.0.address; primary = z.0.primary; state = after_try x.state old r (h.queued x) }, z.1)
restated_goes (suc place) old r (x ∷ xs) (y ∷ ys) z h = (z.0, restated_goes place old r xs ys z.1 (row_tried xs x place h))

results_go : (old : Bool) (places : List ℕ) (results : List Result1) (xs ys : List Row) → AllZip RowGoes xs ys → All (IsTried xs) places → AllZip RowGoes xs (with_results old places results ys)
results_go old [] results xs ys z h = z
results_go old (p ∷ places) [] xs ys z h = z
results_go old (p ∷ places) (r ∷ results) xs ys z h = results_go old places results xs (restated p (state_after old r) ys) (restated_goes p old r xs ys z (All-head (IsTried xs) p places h)) (All-tail (IsTried xs) p places h)

returned_go : (double : Bool) (id : ℕ) (rows : List Row) → AllZip RowGoes rows (map (λ (row : Row). record row { state = given_back double id row.state }) rows)
returned_go double id [] = tt
returned_go double id (row ∷ rows) = (record { address = refl; primary = refl; state = after_return double id row.state }, returned_go double id rows)

entry_stays : (s : Stored) → EntryGoes s s
entry_stays s = record { id = refl; dir = refl; body = refl; parent = refl; rows = rows_stay s.control.rows }

entries_stay : (entries : List Stored) → AllZip EntryGoes entries entries
entries_stay [] = tt
entries_stay (s ∷ entries) = (entry_stays s, entries_stay entries)

-- a control whose rows go where they may
record ControlGoes (old new : Control) : Type 0 where
  pub parent : new.parent ≡ old.parent
  pub rows : AllZip RowGoes old.rows new.rows

entry_goes : (s : Stored) (d : Control) → ControlGoes s.control d → EntryGoes s (record { id = s.id; dir = s.dir; control = d; body = s.body })
entry_goes s d h = record { id = refl; dir = refl; body = refl; parent = h.parent; rows = h.rows }

changed_go : (table : Table) (id : ℕ) (d : Control) (has : HasEntry table id) → IsSound table → ControlGoes has.entry.control d → AllZip EntryGoes table.entries (with_control id d table.entries)
changed_go table id d has sound goes = zip_each EntryGoes (replaced id d) table.entries
    (changed_each EntryGoes id d table.entries has.entry sound.ascending has.among has.is (λ a m. entry_stays a) (entry_goes has.entry d goes))

-- new entries have ids from the first one on
pub numbered_above : (least id : ℕ) (b : List ℕ) (ds : List Draft) → least ≤ id → All (λ s. least ≤ s.id) (numbered id b ds)
numbered_above least id b [] le = All-nil (λ (s : Stored). least ≤ s.id)
numbered_above least id b (d ∷ ds) le = All-cons (λ (s : Stored). least ≤ s.id) (stored id b d) (numbered (id + 1) b ds) le (numbered_above least (id + 1) b ds (omega (arith, le)))

-- and so have those that are brought
pub brought_above : (least : ℕ) (terms : Terms) (moment : ℕ) (p : Parent) (next : ℕ) (backs : List Back) → least ≤ next → All (λ s. least ≤ s.id) (brought terms moment p next backs)
brought_above least terms moment p next [] le = All-nil (λ (s : Stored). least ≤ s.id)
brought_above least terms moment p next (back ∷ backs) le = All-append (λ (s : Stored). least ≤ s.id)
    (numbered next back.message.body (map (heir p) (drafts_of terms back.message moment back.cuts)))
    (brought terms moment p (next + length back.cuts) backs)
    (numbered_above least next back.message.body (map (heir p) (drafts_of terms back.message moment back.cuts)) le)
    (brought_above least terms moment p (next + length back.cuts) backs (omega (arith, le)))

-- without a change
table_stays : (table : Table) → TableGoes table table
table_stays table = record { kept = table.entries; added = []; entries = sym (append-nil table.entries); each = entries_stay table.entries; fresh = All-nil (λ (s : Stored). table.next ≤ s.id) }

accept_goes : (table : Table) (terms : Terms) (message : Message) (cuts : List Cut) (moment : ℕ) → TableGoes table (after table (Accept terms message cuts moment))
accept_goes table terms message [] moment = table_stays table
accept_goes table terms message (cut ∷ cuts) moment =
    let first = stored table.next message.body (draft_of terms message moment cut) in
    let p : Parent = record { id = table.next; revision = 1 } in
    let rest = numbered (table.next + 1) message.body (map (heir p) (drafts_of terms message moment cuts)) in
    record {
      kept = table.entries;
      added = first ∷ rest;
      entries = refl;
      each = entries_stay table.entries;
      fresh = All-cons (λ (s : Stored). table.next ≤ s.id) first rest (omega arith) (numbered_above table.next (table.next + 1) message.body (map (heir p) (drafts_of terms message moment cuts)) (omega arith));
    }

-- by the entry of an id
with_found : (P : Table → Type 0) (change : Control → Table) (table : Table) (o : Option Control) (c : Control) → o ≡ Some c → P (change c) → P (with_entry change table o)
with_found P change table o c e h = subst (λ (q : Option Control). P (with_entry change table q)) (sym e) h

pub at_entry : (P : Table → Type 0) (change : Control → Table) (table : Table) (id : ℕ) (has : HasEntry table id) → IsSound table → P (change has.entry.control) → P (with_entry change table (control_at id table.entries))
at_entry P change table id has sound h = with_found P change table (control_at id table.entries) has.entry.control (found id table.entries has.entry sound.ascending has.among has.is) h

replace_goes : (table : Table) (id : ℕ) (d : Control) (has : HasEntry table id) → IsSound table → ControlGoes has.entry.control d → TableGoes table (after_replace table id d)
replace_goes table id d has sound goes = record {
  kept = with_control id d table.entries;
  added = [];
  entries = sym (append-nil (with_control id d table.entries));
  each = changed_go table id d has sound goes;
  fresh = All-nil (λ (s : Stored). table.next ≤ s.id);
}

children_go : (terms : Terms) (moment : ℕ) (table : Table) (id : ℕ) (backs : List Back) (d : Control) (has : HasEntry table id) → IsSound table → ControlGoes has.entry.control d → TableGoes table (with_children terms moment table id backs d)
children_go terms moment table id backs d has sound goes = record {
  kept = with_control id d table.entries;
  added = brought terms moment (record { id = id; revision = d.revision }) table.next backs;
  entries = refl;
  each = changed_go table id d has sound goes;
  fresh = brought_above table.next terms moment (record { id = id; revision = d.revision }) table.next backs (omega arith);
}

-- a command takes no entry out, and each row goes where it may
pub command_goes : (table : Table) (command : Command) → IsSound table → CanDo table command → TableGoes table (after table command)
command_goes table (Accept terms message cuts moment) sound can = accept_goes table terms message cuts moment
command_goes table (Record terms id places results moment) sound can =
    at_entry (TableGoes table) (λ c. after_replace table id (recorded terms places results moment c)) table id can.has sound
    (replace_goes table id (recorded terms places results moment can.has.entry.control) can.has sound
    (record { parent = refl; rows = results_go (is_old terms can.has.entry.control.created moment) places results can.has.entry.control.rows can.has.entry.control.rows (rows_stay can.has.entry.control.rows) can.tried }))
command_goes table (Return terms id bounces moment) sound can =
    at_entry (TableGoes table) (λ c. with_children terms moment table id bounces (with_returns table.next c)) table id can.has sound
    (children_go terms moment table id bounces (with_returns table.next can.has.entry.control) can.has sound
    (record { parent = refl; rows = returned_go can.has.entry.control.marks.double table.next can.has.entry.control.rows }))
command_goes table (Warn terms id warnings moment) sound can =
    at_entry (TableGoes table) (λ c. with_children terms moment table id warnings (with_warning c)) table id can.has sound
    (children_go terms moment table id warnings (with_warning can.has.entry.control) can.has sound
    (record { parent = refl; rows = rows_stay can.has.entry.control.rows }))
