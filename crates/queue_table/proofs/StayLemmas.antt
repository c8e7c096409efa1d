-- A command leaves each entry but the one that it changes.
use Rattle.std.proofs.Common.{◌≡◌, ◌≢◌, ⊎_elim, ℕ, ◌+◌, ◌<◌, ◌≤◌, List, [], ◌∷◌, ◌++◌, map, Option, Some, None, Bool, true, false, if◌then◌else◌, refl, sym, ◌∙◌, ap, subst, arith, ne_eqb, Contains}
use Rattle.std.specs.Prelude.{All, eqb}
use Rattle.std.proofs.lemmas.Bool.{cases_eq}
use Rattle.std.proofs.lemmas.List.Elements.{All-head, All-tail, All-cons, All-contains, Contains-append_left, Contains-append_cases}
use Rattle.mail_base.specs.declared.control.Control.{Control}
use Rattle.mail_base.specs.declared.control.Parent.{Parent}
use Rattle.mail_base.specs.declared.message.Back.{Back}
use Rattle.spool_store.specs.Entries.{Stored, Table, replaced, with_control}
use Rattle.spool_store.specs.Keepers.{after_replace}
use Rattle.spool_store.specs.Queue.{IsOpen}
use Rattle.spool_store.specs.Stores.{HasId, refinished}
use Rattle.spool_store.specs.Writes.{heir, numbered, stored}
use Rattle.spool_store.specs.declared.held.Held.{Held}
use Rattle.queue_table.specs.Calls.{HasSame, HoldsTable, store}
use Rattle.queue_table.specs.Commands.{Command, after, brought, changed_by, control_at, draft_of, drafts_of, with_children, with_entry}
use Rattle.queue_table.specs.Commands.Command.{Accept, Record, Return, Warn}
use Rattle.queue_table.specs.Reserves.{IsReserved}
use Rattle.queue_table.specs.Results.{recorded, with_returns, with_warning}
use Rattle.queue_table.specs.Soundness.{HasEntry, IsTried}
use Rattle.queue_table.specs.declared.recording.Reserved.{Reserved}
use Rattle.queue_table.specs.declared.table.Table.{Table as Kept}
use Rattle.queue_table.specs.declared.terms.Terms.{Terms}
use Rattle.spool_store.proofs.Replacing.{contains_map, id_stays}
use Rattle.spool_store.proofs.Standing.{contains_cases, contains_head, contains_tail}
use Rattle.queue_table.proofs.GoingLemmas.{brought_above, numbered_above}
use Rattle.queue_table.proofs.HoldingLemmas.{held_in, stored_in}

-- an entry of another id isn't replaced
replaced_other : (id : ℕ) (d : Control) (a : Stored) → a.id ≢ id → replaced id d a ≡ a
replaced_other id d a ne = ap (λ (b : Bool). if b then record { id = a.id; dir = a.dir; control = d; body = a.body } else a) (ne_eqb a.id id ne)

stay_changed : (id : ℕ) (d : Control) (xs : List Stored) (s : Stored) → Contains xs s → s.id ≢ id → Contains (with_control id d xs) s
stay_changed id d xs s k ne = subst (Contains (with_control id d xs)) (replaced_other id d s ne) (contains_map (replaced id d) s xs k)

came_changed : (id : ℕ) (d : Control) (xs : List Stored) (s : Stored) → Contains (with_control id d xs) s → s.id ≢ id → Contains xs s
came_changed id d [] s k ne = absurd (omega (arith, k.1))
came_changed id d (x ∷ xs) s k ne = ⊎_elim
    (λ (e : replaced id d x ≡ s).
    let i : x.id ≡ s.id = sym (id_stays id d x) ∙ ap (λ (q : Stored). q.id) e in
    let same : x ≡ s = sym (replaced_other id d x (λ q. ne (sym i ∙ q))) ∙ e in
    subst (Contains (x ∷ xs)) same (contains_head x xs))
    (λ (m : Contains (with_control id d xs) s). contains_tail x s xs (came_changed id d xs s m ne))
    (contains_cases (replaced id d x) s (with_control id d xs) k)

-- of new entries, whose ids are free, none has an id below
came_added : (next : ℕ) (xs ys : List Stored) (s : Stored) → All (λ s. next ≤ s.id) ys → s.id < next → Contains (xs ++ ys) s → Contains xs s
came_added next xs ys s fresh lt k = ⊎_elim
    (λ (was : Contains xs s). was)
    (λ (new : Contains ys s). let le = All-contains (λ (q : Stored). next ≤ q.id) ys s fresh new in absurd (omega (arith, le, lt)))
    (Contains-append_cases xs ys s k)

-- a control is looked for behind an entry of another id
control_skip : (id : ℕ) (x : Stored) (xs : List Stored) → x.id ≢ id → control_at id (x ∷ xs) ≡ control_at id xs
control_skip id x xs ne = ap (λ (b : Bool). if b then Some x.control else control_at id xs) (ne_eqb x.id id ne)

at_changed : (id other : ℕ) (d : Control) (xs : List Stored) → other ≢ id → control_at other (with_control id d xs) ≡ control_at other xs
at_changed id other d [] ne = refl
at_changed id other d (x ∷ xs) ne = ⊎_elim
    (λ (e : x.id ≡ id). control_skip other (replaced id d x) (with_control id d xs) (λ q. ne (sym q ∙ id_stays id d x ∙ e)) ∙ at_changed id other d xs ne ∙ sym (control_skip other x xs (λ q. ne (sym q ∙ e))))
    (λ (no : x.id ≢ id). ap (λ (y : Stored). control_at other (y ∷ with_control id d xs)) (replaced_other id d x no) ∙ ap (λ (o : Option Control). if eqb x.id other then Some x.control else o) (at_changed id other d xs ne))
    (cases_eq x.id id)

at_none : (id next : ℕ) (ys : List Stored) → All (λ s. next ≤ s.id) ys → id < next → control_at id ys ≡ None
at_none id next [] fresh lt = refl
at_none id next (y ∷ ys) fresh lt =
    let le = All-head (λ (s : Stored). next ≤ s.id) y ys fresh in
    control_skip id y ys (λ e. omega (arith, le, lt, e)) ∙ at_none id next ys (All-tail (λ (s : Stored). next ≤ s.id) y ys fresh) lt

at_added : (id next : ℕ) (xs ys : List Stored) → All (λ s. next ≤ s.id) ys → id < next → control_at id (xs ++ ys) ≡ control_at id xs
at_added id next [] ys fresh lt = at_none id next ys fresh lt
at_added id next (x ∷ xs) ys fresh lt = ap (λ (o : Option Control). if eqb x.id id then Some x.control else o) (at_added id next xs ys fresh lt)

-- what holds of the table, and after each change of an entry, holds after the change of the one that is found
by_entry : (P : Table → Type 0) (change : Control → Table) (table : Table) (o : Option Control) → P table → ((c : Control) → P (change c)) → P (with_entry change table o)
by_entry P change table None was each = was
by_entry P change table (Some c) was each = each c

-- a command makes another entry's control, and puts new entries behind, or nothing
pub record IsMade (table new : Table) (changed : Option ℕ) : Type 0 where
  pub stays : (s : Stored) → Contains table.entries s → changed ≢ Some s.id → Contains new.entries s
  pub came : (s : Stored) → Contains new.entries s → s.id < table.next → changed ≢ Some s.id → Contains table.entries s
  pub found : (id : ℕ) → id < table.next → changed ≢ Some id → control_at id new.entries ≡ control_at id table.entries

made_none : (table : Table) (changed : Option ℕ) → IsMade table table changed
made_none table changed = record { stays = λ s k ne. k; came = λ s k lt ne. k; found = λ id lt ne. refl }

other_id : (id other : ℕ) → (Some id ≢ Some other) → other ≢ id
other_id id other ne e = ne (ap (λ (n : ℕ). Some n) (sym e))

made_changed : (table : Table) (id next : ℕ) (d : Control) (added : List Stored) → All (λ s. table.next ≤ s.id) added → IsMade table (record { entries = with_control id d table.entries ++ added; next = next }) (Some id)
made_changed table id next d added fresh = record {
  stays = λ s k ne. Contains-append_left (with_control id d table.entries) added s (stay_changed id d table.entries s k (other_id id s.id ne));
  came = λ s k lt ne. came_changed id d table.entries s (came_added table.next (with_control id d table.entries) added s fresh lt k) (other_id id s.id ne);
  found = λ i lt ne. at_added i table.next (with_control id d table.entries) added fresh lt ∙ at_changed id i d table.entries (other_id id i ne);
}

made_replaced : (table : Table) (id : ℕ) (d : Control) → IsMade table (after_replace table id d) (Some id)
made_replaced table id d = record {
  stays = λ s k ne. stay_changed id d table.entries s k (other_id id s.id ne);
  came = λ s k lt ne. came_changed id d table.entries s k (other_id id s.id ne);
  found = λ i lt ne. at_changed id i d table.entries (other_id id i ne);
}

made_added : (table : Table) (next : ℕ) (added : List Stored) → All (λ s. table.next ≤ s.id) added → IsMade table (record { entries = table.entries ++ added; next = next }) None
made_added table next added fresh = record {
  stays = λ s k ne. Contains-append_left table.entries added s k;
  came = λ s k lt ne. came_added table.next table.entries added s fresh lt k;
  found = λ i lt ne. at_added i table.next table.entries added fresh lt;
}

made_children : (terms : Terms) (moment : ℕ) (table : Table) (id : ℕ) (backs : List Back) (d : Control) → IsMade table (with_children terms moment table id backs d) (Some id)
made_children terms moment table id backs d =
    let p : Parent = record { id = id; revision = d.revision } in
    made_changed table id (with_children terms moment table id backs d).next d (brought terms moment p table.next backs) (brought_above table.next terms moment p table.next backs (omega arith))

-- so does each command
pub command_makes : (table : Table) (command : Command) → IsMade table (after table command) (changed_by command)
command_makes table (Accept terms message [] moment) = made_none table None
command_makes table (Accept terms message (cut ∷ cuts) moment) =
    let p : Parent = record { id = table.next; revision = 1 } in
    let first : Stored = stored table.next message.body (draft_of terms message moment cut) in
    let rest : List Stored = numbered (table.next + 1) message.body (map (heir p) (drafts_of terms message moment cuts)) in
    made_added table (after table (Accept terms message (cut ∷ cuts) moment)).next (first ∷ rest)
    (All-cons (λ (s : Stored). table.next ≤ s.id) first rest (omega arith) (numbered_above table.next (table.next + 1) message.body (map (heir p) (drafts_of terms message moment cuts)) (omega arith)))
command_makes table (Record terms id places results moment) =
    by_entry (λ (t : Table). IsMade table t (Some id)) (λ c. after_replace table id (recorded terms places results moment c)) table (control_at id table.entries) (made_none table (Some id))
    (λ c. made_replaced table id (recorded terms places results moment c))
command_makes table (Return terms id bounces moment) =
    by_entry (λ (t : Table). IsMade table t (Some id)) (λ c. with_children terms moment table id bounces (with_returns table.next c)) table (control_at id table.entries) (made_none table (Some id))
    (λ c. made_children terms moment table id bounces (with_returns table.next c))
command_makes table (Warn terms id warnings moment) =
    by_entry (λ (t : Table). IsMade table t (Some id)) (λ c. with_children terms moment table id warnings (with_warning c)) table (control_at id table.entries) (made_none table (Some id))
    (λ c. made_children terms moment table id warnings (with_warning c))

-- an entry of the store, by the one of the table before and after
pub record IsCarried (new : List Held) (h : Held) : Type 0 where
  pub one : Held
  pub among : Contains new one
  pub id : one.entry.id ≡ h.entry.id
  pub dir : one.entry.dir ≡ h.entry.dir
  pub control : one.entry.control ≡ h.entry.control

carried : (old new : Kept) (table : Table) (command : Command) (h : Held) → HoldsTable old table → HoldsTable new (after table command) → Contains (store old).entries h → changed_by command ≢ Some h.entry.id → IsCarried (store new).entries h
carried old new table command h was is k ne =
    let s = stored_in (store old).entries table.entries h was.entries k in
    let stays = (command_makes table command).stays s.one s.among (λ e. ne (e ∙ ap (λ (n : ℕ). Some n) (sym s.is.id))) in
    let now = held_in (store new).entries (after table command).entries s.one is.entries stays in
    record { one = now.one; among = now.among; id = now.is.id ∙ sym s.is.id; dir = now.is.dir ∙ sym s.is.dir; control = now.is.control ∙ sym s.is.control }

-- an entry that a command doesn't change is in the store as before
pub held_stays : (old new : Kept) (table : Table) (command : Command) (h : Held) → HoldsTable old table → HoldsTable new (after table command) → Contains (store old).entries h → changed_by command ≢ Some h.entry.id → HasSame (store new).entries h
held_stays old new table command h was is k ne =
    let now = carried old new table command h was is k ne in
    record { one = now.one; among = now.among; same = λ i. record { id = now.id i; dir = now.dir i; control = now.control i } }

-- what was reserved for an entry is so while another one is changed
pub reserve_stays : (old new : Kept) (table : Table) (command : Command) (reserved : Reserved) → HoldsTable old table → HoldsTable new (after table command) → changed_by command ≢ Some reserved.room.id → IsReserved (store old).entries reserved → IsReserved (store new).entries reserved
reserve_stays old new table command reserved was is ne r =
    let now = carried old new table command r.can.held was is r.can.among (λ e. ne (e ∙ ap (λ (n : ℕ). Some n) r.can.is)) in
    record {
      can = record {
        held = now.one;
        among = now.among;
        is = now.id ∙ r.can.is;
        waits = subst IsOpen (sym now.control) r.can.waits;
        tried = subst (λ (c : Control). All (IsTried c.rows) reserved.rows) (sym now.control) r.can.tried;
      };
      control = r.control ∙ sym now.control;
      empty = r.empty;
      fits = r.fits;
    }

finished_entry : (b : Bool) (h : Held) → (if b then record h { finished = true } else h).entry ≡ h.entry
finished_entry true h = refl
finished_entry false h = refl

-- and while an entry is finished
pub reserve_finishes : (entries : List Held) (id : ℕ) (reserved : Reserved) → IsReserved entries reserved → IsReserved (map (refinished id) entries) reserved
reserve_finishes entries id reserved r =
    let same : (refinished id r.can.held).entry ≡ r.can.held.entry = finished_entry (eqb r.can.held.entry.id id) r.can.held in
    let control : (refinished id r.can.held).entry.control ≡ r.can.held.entry.control = λ i. (same i).control in
    record {
      can = record {
        held = refinished id r.can.held;
        among = contains_map (refinished id) r.can.held entries r.can.among;
        is = (λ i. (same i).id) ∙ r.can.is;
        waits = subst IsOpen (sym control) r.can.waits;
        tried = subst (λ (c : Control). All (IsTried c.rows) reserved.rows) (sym control) r.can.tried;
      };
      control = r.control ∙ sym control;
      empty = r.empty;
      fits = r.fits;
    }

-- what a table has of an id the store has, and back
pub has_id : (kept : Kept) (table : Table) (id : ℕ) → HoldsTable kept table → HasEntry table id → HasId (store kept).entries id
has_id kept table id holds has =
    let h = held_in (store kept).entries table.entries has.entry holds.entries has.among in
    record { held = h.one; among = h.among; is = h.is.id ∙ has.is }

pub has_entry : (kept : Kept) (table : Table) (id : ℕ) → HoldsTable kept table → HasId (store kept).entries id → HasEntry table id
has_entry kept table id holds has =
    let s = stored_in (store kept).entries table.entries has.held holds.entries has.among in
    record { entry = s.one; among = s.among; is = sym s.is.id ∙ has.is }
