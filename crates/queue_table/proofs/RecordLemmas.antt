-- A record over a store is that over the table that it holds.
use Rattle.std.proofs.Common.{◌≡◌, ⊎_elim, ℕ, ◌≤◌, List, [], ◌∷◌, map, Some, Result, Ok, Err, refl, sym, ◌∙◌, ap, subst, arith, Contains}
use Rattle.std.specs.Prelude.{All, OnOk}
use Rattle.std.specs.List.{AllZip}
use Rattle.std.specs.List.Sorted.{IsStrictlySortedBy}
use Rattle.std.specs.Ordering.{nat_cmp}
use Rattle.std.proofs.lemmas.List.Elements.{All-contains}
use Rattle.mail_base.specs.declared.control.Control.{Control}
use Rattle.mail_base.specs.declared.outcome.Result1.{Result1}
use Rattle.qf_format.specs.Room.{SameTexts, room_of}
use Rattle.qf_format.specs.Sheets.{Sheet}
use Rattle.qf_format.specs.Valid.{IsValid}
use Rattle.spool_store.specs.Entries.{Stored, Table, ids}
use Rattle.spool_store.specs.Keepers.{CanReplace, after_replace}
use Rattle.spool_store.specs.Openings.{IsFitting}
use Rattle.spool_store.specs.Stores.{Holds, IsHeld, StoreSeen}
use Rattle.spool_store.specs.declared.held.Held.{Held}
use Rattle.queue_table.specs.Commands.{after, control_at, with_entry}
use Rattle.queue_table.specs.Commands.Command.{Record}
use Rattle.queue_table.specs.Reserves.{IsReserved}
use Rattle.queue_table.specs.Results.{is_old, recorded}
use Rattle.queue_table.specs.declared.recording.Reserved.{Reserved}
use Rattle.queue_table.specs.declared.terms.Terms.{Terms}
use Rattle.spool_store.proofs.Standing.{contains_cases, contains_head, contains_tail}
use Rattle.queue_table.proofs.EntryLemmas.{found}
use Rattle.queue_table.proofs.ResultLemmas.{results_addresses}

-- a store and its table have the same ids
pub same_ids : (hs : List Held) (ss : List Stored) → AllZip IsHeld hs ss → map (λ h. h.entry.id) hs ≡ ids ss
same_ids [] [] z = refl
same_ids [] (s ∷ ss) z = absurd z
same_ids (h ∷ hs) [] z = absurd z
same_ids (h ∷ hs) (s ∷ ss) z = ap (λ (n : ℕ). n ∷ map (λ (q : Held). q.entry.id) hs) z.0.id ∙ ap (λ (q : List ℕ). s.id ∷ q) (same_ids hs ss z.1)

-- what the table has of an entry of the store
record Its (ss : List Stored) (h : Held) : Type 0 where
  pub stored : Stored
  pub among : Contains ss stored
  pub is : IsHeld h stored

its : (hs : List Held) (ss : List Stored) (h : Held) → AllZip IsHeld hs ss → Contains hs h → Its ss h
its [] [] h z k = absurd (omega (arith, k.1))
its [] (s ∷ ss) h z k = absurd z
its (x ∷ hs) [] h z k = absurd z
its (x ∷ hs) (s ∷ ss) h z k = ⊎_elim
    (λ (first : x ≡ h). record { stored = s; among = contains_head s ss; is = subst (λ (q : Held). IsHeld q s) first z.0 })
    (λ (later : Contains hs h). let i = its hs ss h z.1 later in record { stored = i.stored; among = contains_tail s i.stored ss i.among; is = i.is })
    (contains_cases x h hs k)

-- the control of an entry of the store is that of its id in the table
pub held_control : (store : StoreSeen) (table : Table) (h : Held) (id : ℕ) → Holds store table → IsStrictlySortedBy nat_cmp (map (λ q. q.entry.id) store.entries) → Contains store.entries h → h.entry.id ≡ id → control_at id table.entries ≡ Some h.entry.control
held_control store table h id holds up k is =
    let i = its store.entries table.entries h holds.entries k in
    found id table.entries i.stored (subst (IsStrictlySortedBy nat_cmp) (same_ids store.entries table.entries holds.entries) up) i.among (sym i.is.id ∙ is) ∙ ap (λ (c : Control). Some c) (sym i.is.control)

-- so a record replaces the control that was reserved
pub record_is : (store : StoreSeen) (table : Table) (reserved : Reserved) (terms : Terms) (results : List Result1) (moment : ℕ) → Holds store table → IsStrictlySortedBy nat_cmp (map (λ q. q.entry.id) store.entries) → IsReserved store.entries reserved → after table (Record terms reserved.room.id reserved.rows results moment) ≡ after_replace table reserved.room.id (recorded terms reserved.rows results moment reserved.room.control)
record_is store table reserved terms results moment holds up r =
    ap (with_entry (λ (c : Control). after_replace table reserved.room.id (recorded terms reserved.rows results moment c)) table)
    (held_control store table r.can.held reserved.room.id holds up r.can.among r.can.is ∙ ap (λ (c : Control). Some c) (sym r.control))

-- and may do so
pub record_can : (dirs : List (List ℕ)) (entries : List Held) (reserved : Reserved) (terms : Terms) (results : List Result1) (moment : ℕ) (id : ℕ) (control : Control) (paper : Sheet) → All (λ (h : Held). IsFitting dirs h.entry) entries → IsReserved entries reserved → id ≡ reserved.room.id → paper ≡ reserved.room.paper → control ≡ recorded terms reserved.rows results moment reserved.room.control → (IsValid reserved.room.control → IsValid control) → CanReplace entries id control paper
record_can dirs entries reserved terms results moment id control paper fit r id_is paper_is is valid =
    let held = r.can.held in
    let made : control ≡ recorded terms reserved.rows results moment held.entry.control = is ∙ ap (recorded terms reserved.rows results moment) r.control in
    record {
      held = held;
      among = r.can.among;
      is = r.can.is ∙ sym id_is;
      open_row = r.can.waits;
      valid = valid (subst IsValid (sym r.control) (All-contains (λ (h : Held). IsFitting dirs h.entry) entries held fit r.can.among).valid);
      texts = subst (SameTexts held.entry.control) (sym made) (record { group = refl; sender = refl; kept = refl; addresses = results_addresses (is_old terms held.entry.control.created moment) reserved.rows results held.entry.control.rows; headers = refl });
      parent = ap (λ (c : Control). c.parent) made;
      revision = ap (λ (c : Control). c.revision) made;
      empty = ap (λ (q : Sheet). q.bytes) paper_is ∙ r.empty;
      fits = subst (λ (n : ℕ). room_of held.entry.control ≤ n) (ap (λ (q : Sheet). q.room) (sym paper_is)) (subst (λ (c : Control). room_of c ≤ reserved.room.paper.room) r.control r.fits);
    }

-- so it leads to the table after the command, by the room's id and control
pub record_by : (store : StoreSeen) (table : Table) (reserved : Reserved) (terms : Terms) (results : List Result1) (moment id : ℕ) (control : Control) → Holds store table → IsStrictlySortedBy nat_cmp (map (λ q. q.entry.id) store.entries) → IsReserved store.entries reserved → id ≡ reserved.room.id → control ≡ recorded terms reserved.rows results moment reserved.room.control → after table (Record terms reserved.room.id reserved.rows results moment) ≡ after_replace table id control
record_by store table reserved terms results moment id control holds up r id_is is =
    record_is store table reserved terms results moment holds up r
    ∙ ap (λ (n : ℕ). after_replace table n (recorded terms reserved.rows results moment reserved.room.control)) (sym id_is)
    ∙ ap (after_replace table id) (sym is)

-- what a store holds that a call has left, where it went well
pub holds_ok : {T E : Type 0} (r : Result T E) (new made : StoreSeen) (table : Table) → OnOk r (new ≡ made) → Holds made table → OnOk r (Holds new table)
holds_ok (Ok x) new made table is h = subst (λ (s : StoreSeen). Holds s table) (sym is) h
holds_ok (Err e) new made table is h = tt
