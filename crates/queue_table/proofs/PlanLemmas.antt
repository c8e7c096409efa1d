-- What is made ready before a call writes.
use Rattle.std.proofs.Common.{◌≡◌, ⊎_elim, ℕ, ◌+◌, ◌<◌, ◌≤◌, List, [], ◌∷◌, ◌++◌, map, length, Option, Some, None, Result, Ok, Err, Bool, true, false, refl, sym, ◌∙◌, ap, subst, arith, Contains}
use Rattle.std.specs.Prelude.{◌↔◌, All, IfOk, IfSome, IsSome, IsTrue, not, sum_by}
use Rattle.std.proofs.lemmas.Bool.{cases_lt}
use Rattle.std.specs.List.Sorted.{IsStrictlySortedBy}
use Rattle.std.specs.Ordering.{nat_cmp}
use Rattle.std.proofs.lemmas.List.{append-nil, length-map}
use Rattle.std.proofs.lemmas.List.Elements.{All-contains, All-head, All-tail, All-nil, All-cons}
use Rattle.mail_base.specs.Limits.{IsId, most_rows}
use Rattle.mail_base.specs.declared.control.Control.{Control}
use Rattle.mail_base.specs.declared.control.Draft.{Draft}
use Rattle.mail_base.specs.declared.control.Entry.{Entry}
use Rattle.mail_base.specs.declared.control.Parent.{Parent}
use Rattle.mail_base.specs.declared.control.Row.{Row}
use Rattle.mail_base.specs.declared.control.State.{State}
use Rattle.mail_base.specs.declared.control.State.TheVariants.{Queued, Sent, Failed, Returned, Dead}
use Rattle.mail_base.specs.declared.fault.StoreFault.{StoreFault}
use Rattle.mail_base.specs.declared.message.Back.{Back}
use Rattle.mail_base.specs.declared.message.Cut.{Cut}
use Rattle.mail_base.specs.declared.message.Message.{Message}
use Rattle.qf_format.specs.Valid.{IsRevision, IsRow, IsState, IsValid}
use Rattle.spool_store.specs.Entries.{Stored, Table, with_control}
use Rattle.spool_store.specs.Keepers.{raised}
use Rattle.spool_store.specs.Openings.{IsFitting}
use Rattle.spool_store.specs.Parcels.{CanPrepare, CanPrepareUnder, IsParcel, IsParcelUnder}
use Rattle.spool_store.specs.Queue.{IsOpen}
use Rattle.spool_store.specs.Stores.{HasId, StoreSeen}
use Rattle.spool_store.specs.Writes.{IsDraftable, after_commit, heir, numbered}
use Rattle.spool_store.specs.declared.held.Held.{Held}
use Rattle.spool_store.specs.declared.parcel.Parcel.{Parcel}
use Rattle.queue_table.specs.Calls.{AreBacksValid, AreDirs, AreValid, HoldsTable, IsAccepting, IsAsked, IsSame, store}
use Rattle.queue_table.specs.Commands.{control_at, draft_of, drafts_of, with_children, with_entry}
use Rattle.queue_table.specs.Commands.Command.{Return, Warn}
use Rattle.queue_table.specs.Results.{given_back, with_returns, with_warning}
use Rattle.queue_table.specs.Soundness.{AreBounces, HasEntry, IsBack}
use Rattle.queue_table.specs.declared.accepting.Accepting.{Accepting}
use Rattle.queue_table.specs.declared.table.Table.{Table as Kept}
use Rattle.queue_table.specs.declared.terms.Terms.{Terms}
use Rattle.queue_table.specs.inner.Planning.{AreDrafts, IsOpenAt, Makes, control_by, given_by, next_draft, row_by}
use Rattle.queue_table.proofs.HoldingLemmas.{held_found, held_in}

-- what a store tells of its entries
abbrev pub AreFitting : StoreSeen → Type 0
AreFitting s = All (λ (h : Held). IsFitting s.dirs h.entry) s.entries

-- drafts of valid parts can be committed
pub all_draftable : (dirs : List (List ℕ)) (terms : Terms) (message : Message) (moment : ℕ) (cuts : List Cut) → AreDirs terms dirs → AreValid terms message moment cuts → All (IsDraftable dirs) (drafts_of terms message moment cuts)
all_draftable dirs terms message moment [] there valid = All-nil (IsDraftable dirs)
all_draftable dirs terms message moment (cut ∷ cuts) there valid =
    All-cons (IsDraftable dirs) (draft_of terms message moment cut) (drafts_of terms message moment cuts)
    (record { among = there cut.group; valid = All-head (λ (c : Cut). IsValid (draft_of terms message moment c).control) cut cuts valid })
    (all_draftable dirs terms message moment cuts there (All-tail (λ (c : Cut). IsValid (draft_of terms message moment c).control) cut cuts valid))

pub drafts_can : (dirs : List (List ℕ)) (terms : Terms) (message : Message) (moment : ℕ) (cuts : List Cut) (drafts : Draft × List Draft) → AreDirs terms dirs → AreValid terms message moment cuts → AreDrafts terms message moment cuts drafts → CanPrepare dirs drafts.1 drafts.0
drafts_can dirs terms message moment cuts drafts there valid d =
    let each : AreValid terms message moment (d.first ∷ d.rest) = subst (AreValid terms message moment) d.whole valid in
    record {
      each = subst (All (IsDraftable dirs)) (sym d.children) (all_draftable dirs terms message moment d.rest there (All-tail (λ (c : Cut). IsValid (draft_of terms message moment c).control) d.first d.rest each));
      head = subst (IsDraftable dirs) (sym d.parent) (record { among = there d.first.group; valid = All-head (λ (c : Cut). IsValid (draft_of terms message moment c).control) d.first d.rest each });
      alone = ap (λ (q : Draft). q.control.parent) d.parent;
    }

-- how many they are
pub drafts_long : (terms : Terms) (message : Message) (moment : ℕ) (cuts : List Cut) (drafts : Draft × List Draft) → AreDrafts terms message moment cuts drafts → length drafts.1 + 1 ≡ length cuts
drafts_long terms message moment cuts drafts d =
    let m : length drafts.1 ≡ length d.rest = ap length d.children ∙ length-map d.rest (draft_of terms message moment) in
    let n : length cuts ≡ length (d.first ∷ d.rest) = ap length d.whole in
    omega (arith, m, n)

-- what is ready takes the message in
pub accepting_of : (old mid : Kept) (message : Message) (cuts : List Cut) (moment : ℕ) (drafts : Draft × List Draft) (a : Accepting) → IsSame old mid → AreDrafts old.terms message moment cuts drafts → IsParcel (store mid) drafts.1 drafts.0 message.body a.parcel → IsAccepting mid message cuts moment a
accepting_of old mid message cuts moment drafts a same d is =
    let rest : drafts.1 ≡ drafts_of mid.terms message moment d.rest = d.children ∙ ap (λ (t : Terms). drafts_of t message moment d.rest) (sym same.0) in
    let first : drafts.0 ≡ draft_of mid.terms message moment d.first = d.parent ∙ ap (λ (t : Terms). draft_of t message moment d.first) (sym same.0) in
    record {
      first = d.first;
      rest = d.rest;
      whole = d.whole;
      parcel = subst (λ (q : Draft). IsParcel (store mid) (drafts_of mid.terms message moment d.rest) q message.body a.parcel) first (subst (λ (q : List Draft). IsParcel (store mid) q drafts.0 message.body a.parcel) rest is);
    }

pub are_accepting : (old mid : Kept) (message : Message) (cuts : List Cut) (moment : ℕ) (drafts : Draft × List Draft) (r : Result Accepting StoreFault) → IsSame old mid → AreDrafts old.terms message moment cuts drafts → IfOk r (λ a. IsParcel (store mid) drafts.1 drafts.0 message.body a.parcel) → IfOk r (IsAccepting mid message cuts moment)
are_accepting old mid message cuts moment drafts (Ok a) same d is = accepting_of old mid message cuts moment drafts a same d is
are_accepting old mid message cuts moment drafts (Err e) same d is = tt

-- under the first free id
pub first_ids : (old mid : Kept) (children : List Draft) (parent : Draft) (b : List ℕ) (r : Result Accepting StoreFault) → IsSame old mid → IfOk r (λ a. IsParcel (store mid) children parent b a.parcel) → IfOk r (λ a. a.parcel.parent.entry.id ≡ (store old).next)
first_ids old mid children parent b (Ok a) same is = ap (λ (q : Stored). q.id) (is.head []) ∙ ap (λ (q : StoreSeen). q.next) same.1
first_ids old mid children parent b (Err e) same is = tt

-- a row that is given back has a text
state_valid : (bounce : Option ℕ) → IfSome bounce IsId → (s : State) → IsState s → IsState (given_by bounce s)
state_valid None b (Queued _) h = h
state_valid None b Sent h = h
state_valid None b (Failed _ _) h = h
state_valid None b (Returned _) h = h
state_valid None b (Dead _ _) h = h
state_valid (Some id) b (Queued _) h = h
state_valid (Some id) b Sent h = h
state_valid (Some id) b (Failed _ _) h = b
state_valid (Some id) b (Returned _) h = h
state_valid (Some id) b (Dead _ _) h = h

rows_valid : (bounce : Option ℕ) → IfSome bounce IsId → (rows : List Row) → All IsRow rows → All IsRow (map (row_by bounce) rows)
rows_valid bounce b [] h = All-nil IsRow
rows_valid bounce b (row ∷ rows) h =
    let first : IsRow row = All-head IsRow row rows h in
    All-cons IsRow (row_by bounce row) (map (row_by bounce) rows)
    (record { address_form = first.address_form; state_form = state_valid bounce b row.state first.state_form })
    (rows_valid bounce b rows (All-tail IsRow row rows h))

raised_range : (n : ℕ) → IsRevision n → IsRevision (raised n)
raised_range n h = record { least = omega (arith, h.least); most = omega arith }

pub back_valid : (bounce : Option ℕ) → IfSome bounce IsId → (c : Control) → IsValid c → IsValid (control_by bounce c)
back_valid bounce b c v = record {
  revision_range = raised_range c.revision v.revision_range;
  parent_form = v.parent_form;
  group_form = v.group_form;
  created_range = v.created_range;
  last_try_range = v.last_try_range;
  tries_range = v.tries_range;
  priority_range = v.priority_range;
  class_range = v.class_range;
  sender_form = v.sender_form;
  kept_form = v.kept_form;
  rows_form = record {
    some = subst (λ (n : ℕ). 0 < n) (sym (length-map c.rows (row_by bounce))) v.rows_form.some;
    few = subst (λ (n : ℕ). n ≤ most_rows) (sym (length-map c.rows (row_by bounce))) v.rows_form.few;
    each = rows_valid bounce b c.rows v.rows_form.each;
  };
  headers_form = v.headers_form;
}

pub warned_valid : (c : Control) → IsValid c → IsValid (with_warning c)
warned_valid c v = record {
  revision_range = raised_range c.revision v.revision_range;
  parent_form = v.parent_form;
  group_form = v.group_form;
  created_range = v.created_range;
  last_try_range = v.last_try_range;
  tries_range = v.tries_range;
  priority_range = v.priority_range;
  class_range = v.class_range;
  sender_form = v.sender_form;
  kept_form = v.kept_form;
  rows_form = v.rows_form;
  headers_form = v.headers_form;
}

-- an entry's next control and the children under it can be committed
can_under : (old : Kept) (id : ℕ) (children : List Draft) (parent : Draft) (change : Control → Control) → IsOpenAt old id → ((c : Control) → IsValid c → IsValid (change c)) → ((c : Control) → (change c).parent ≡ c.parent) → ((c : Control) → (change c).revision ≡ raised c.revision) → All (IsDraftable (store old).dirs) children
    → ((h : Held) → Contains (store old).entries h → h.entry.id ≡ id → parent ≡ next_draft h (change h.entry.control)) → CanPrepareUnder (store old).dirs (store old).entries children parent
can_under old id children parent change at valid up raise each is =
    let h = at.held in
    let e : parent ≡ next_draft h (change h.entry.control) = is h at.among at.is in
    record {
      each = each;
      head = subst (IsDraftable (store old).dirs) (sym e) (record { among = at.fit.dir; valid = valid h.entry.control at.fit.valid });
      held = h;
      among = at.among;
      named = ap (λ (q : Draft). q.id) e;
      follows = record {
        dir = ap (λ (q : Draft). q.dir) e;
        parent = ap (λ (q : Draft). q.control.parent) e ∙ up h.entry.control;
        revision = ap (λ (q : Draft). q.control.revision) e ∙ raise h.entry.control;
        open_row = at.waits;
      };
    }

pub can_back : (old : Kept) (id : ℕ) (children : List Draft) (parent : Draft) (bounce : Option ℕ) → IfSome bounce IsId → IsOpenAt old id → All (IsDraftable (store old).dirs) children
    → ((h : Held) → Contains (store old).entries h → h.entry.id ≡ id → parent ≡ next_draft h (control_by bounce h.entry.control)) → CanPrepareUnder (store old).dirs (store old).entries children parent
can_back old id children parent bounce b at each is = can_under old id children parent (control_by bounce) at (back_valid bounce b) (λ c. refl) (λ c. refl) each is

pub can_warn : (old : Kept) (id : ℕ) (children : List Draft) (parent : Draft) → IsOpenAt old id → All (IsDraftable (store old).dirs) children
    → ((h : Held) → Contains (store old).entries h → h.entry.id ≡ id → parent ≡ next_draft h (with_warning h.entry.control)) → CanPrepareUnder (store old).dirs (store old).entries children parent
can_warn old id children parent at each is = can_under old id children parent with_warning at warned_valid (λ c. refl) (λ c. refl) each is

pub open_id : (old : Kept) (id : ℕ) → IsOpenAt old id → HasId (store old).entries id
open_id old id at = record { held = at.held; among = at.among; is = at.is }

-- what is ready for a draft is ready for the one that it is
pub under_is : (s : StoreSeen) (entries : List Held) (id : ℕ) (children : List Draft) (parent : Draft) (b : List ℕ) (change : Control → Control) (r : Result Parcel StoreFault) → ((h : Held) → Contains entries h → h.entry.id ≡ id → parent ≡ next_draft h (change h.entry.control))
    → IfOk r (λ parcel. (n : ℕ) → parent.id ≡ Some n → IsParcelUnder s n children parent b parcel)
    → IfOk r (λ parcel. (h : Held) → Contains entries h → h.entry.id ≡ id → IsParcelUnder s id children (next_draft h (change h.entry.control)) b parcel)
under_is s entries id children parent b change (Ok parcel) is ready = λ h k has.
    let e : parent ≡ next_draft h (change h.entry.control) = is h k has in
    subst (λ (q : Draft). IsParcelUnder s id children q b parcel) e (ready id (ap (λ (q : Draft). q.id) e ∙ ap (λ (n : ℕ). Some n) has))
under_is s entries id children parent b change (Err e) is ready = tt

-- one message is given
no_push : {X : Type 0} (xs : List X) (x : X) → [] ≡ xs ++ x ∷ [] → ⊥
no_push [] x e = cc e
no_push (y ∷ ys) x e = cc e

last_is : {X : Type 0} (xs : List X) (x y : X) → y ∷ [] ≡ xs ++ x ∷ [] → y ≡ x
last_is [] x y e = cc e
last_is (z ∷ zs) x y e = absurd (no_push zs x (cc e))

-- a return without a bounce is that of a double bounce
pub no_bounce : (double : Bool) (backs : List Back) → AreBounces (not double) backs → backs ≡ [] → double ≡ true
no_bounce true backs are none = refl
no_bounce false backs are none = absurd (cc (are.1, none))

-- and one with a bounce has one, and is that of an entry that is none
pub record IsOneBounce (double : Bool) (backs : List Back) (back : Back) : Type 0 where
  pub single : double ≡ false
  pub one : backs ≡ back ∷ []
  pub is : IsBack back

pub one_bounce : (double : Bool) (backs xs : List Back) (back : Back) → AreBounces (not double) backs → backs ≡ xs ++ back ∷ [] → IsOneBounce double backs back
one_bounce true backs xs back are e = absurd (no_push xs back (sym are ∙ e))
one_bounce false backs xs back are e =
    let same : are.0 ≡ back = last_is xs back are.0 (sym are.1 ∙ e) in
    record { single = refl; one = are.1 ∙ ap (λ (q : Back). q ∷ []) same; is = subst IsBack same are.2 }

pub one_warning : (backs xs : List Back) (back warning : Back) → backs ≡ warning ∷ [] → backs ≡ xs ++ back ∷ [] → backs ≡ back ∷ []
one_warning backs xs back warning one e = one ∙ ap (λ (q : Back). q ∷ []) (last_is xs back warning (sym one ∙ e))

-- what the rows of an entry become
dead_any : (n : ℕ) (s : State) → given_back true 0 s ≡ given_back true n s
dead_any n (Queued _) = refl
dead_any n Sent = refl
dead_any n (Failed _ _) = refl
dead_any n (Returned _) = refl
dead_any n (Dead _ _) = refl

dead_rows : (n : ℕ) (rows : List Row) → map (row_by None) rows ≡ map (λ (row : Row). record row { state = given_back true n row.state }) rows
dead_rows n [] = refl
dead_rows n (row ∷ rows) = λ i. record row { state = dead_any n row.state i } ∷ dead_rows n rows i

dead_control : (n : ℕ) (c : Control) → c.marks.double ≡ true → control_by None c ≡ with_returns n c
dead_control n c e =
    let rows : map (row_by None) c.rows ≡ map (λ (row : Row). record row { state = given_back c.marks.double n row.state }) c.rows = subst (λ (d : Bool). map (row_by None) c.rows ≡ map (λ (row : Row). record row { state = given_back d n row.state }) c.rows) (sym e) (dead_rows n c.rows) in
    λ i. record c { revision = raised c.revision; rows = rows i }

bounce_control : (n : ℕ) (c : Control) → c.marks.double ≡ false → control_by (Some n) c ≡ with_returns n c
bounce_control n c e =
    let rows : map (row_by (Some n)) c.rows ≡ map (λ (row : Row). record row { state = given_back c.marks.double n row.state }) c.rows = subst (λ (d : Bool). map (row_by (Some n)) c.rows ≡ map (λ (row : Row). record row { state = given_back d n row.state }) c.rows) (sym e) refl in
    λ i. record c { revision = raised c.revision; rows = rows i }

-- a commit with the entries of one message is what the command says
one_child : (terms : Terms) (moment : ℕ) (table : Table) (id : ℕ) (back : Back) (h : Held) (d : Control) (b : List ℕ) → b ≡ back.message.body → after_commit table (drafts_of terms back.message moment back.cuts) (next_draft h d) b (Some id) ≡ with_children terms moment table id (back ∷ []) d
one_child terms moment table id back h d b same =
    let p : Parent = record { id = id; revision = d.revision } in
    let ds : List Draft = map (heir p) (drafts_of terms back.message moment back.cuts) in
    let entries : numbered table.next b ds ≡ numbered table.next back.message.body ds ++ [] = ap (λ (q : List ℕ). numbered table.next q ds) same ∙ sym (append-nil (numbered table.next back.message.body ds)) in
    let count : length (drafts_of terms back.message moment back.cuts) ≡ length back.cuts = length-map back.cuts (draft_of terms back.message moment) in
    let next : table.next + length (drafts_of terms back.message moment back.cuts) ≡ table.next + (0 + length back.cuts) = omega (arith, count) in
    λ i. record { entries = with_control id d table.entries ++ entries i; next = next i }

with_there : (change : Control → Table) (table : Table) (o : Option Control) (c : Control) → o ≡ Some c → change c ≡ with_entry change table o
with_there change table o c e = sym (ap (with_entry change table) e)

-- the entry of an id, as the store has it
pub open_at : (old : Kept) (table : Table) (id : ℕ) → AreFitting (store old) → HoldsTable old table → (has : HasEntry table id) → IsOpen has.entry.control → IsOpenAt old id
open_at old table id fit holds has waits =
    let k = held_in (store old).entries table.entries has.entry holds.entries has.among in
    record { held = k.one; among = k.among; is = k.is.id ∙ has.is; waits = subst IsOpen (sym k.is.control) waits; fit = All-contains (λ (h : Held). IsFitting (store old).dirs h.entry) (store old).entries k.one fit k.among }

pub open_control : (old : Kept) (table : Table) (id : ℕ) (fit : AreFitting (store old)) (holds : HoldsTable old table) (has : HasEntry table id) (waits : IsOpen has.entry.control) → (open_at old table id fit holds has waits).held.entry.control ≡ has.entry.control
unfolding open_at
open_control old table id fit holds has waits = (held_in (store old).entries table.entries has.entry holds.entries has.among).is.control

-- what stands where the plan's entry is found in a table
found_after : (old mid : Kept) (id : ℕ) (at : IsOpenAt old id) (table : Table) (change : Control → Table) → IsSame old mid → IsStrictlySortedBy nat_cmp (map (λ (h : Held). h.entry.id) (store old).entries) → HoldsTable mid table → change at.held.entry.control ≡ with_entry change table (control_at id table.entries)
found_after old mid id at table change same up holds =
    let entries : (store old).entries ≡ (store mid).entries = sym (ap (λ (q : StoreSeen). q.entries) same.1) in
    with_there change table (control_at id table.entries) at.held.entry.control
    (held_found (store mid).entries table.entries at.held id
    (subst (λ (q : List Held). IsStrictlySortedBy nat_cmp (map (λ (h : Held). h.entry.id) q)) entries up)
    holds.entries (subst (λ (q : List Held). Contains q at.held) entries at.among) at.is)

-- without a bounce
makes_none : (old mid : Kept) (id : ℕ) (moment : ℕ) (backs : List Back) (parcel : Parcel) (at : IsOpenAt old id) → IsSame old mid → IsStrictlySortedBy nat_cmp (map (λ (h : Held). h.entry.id) (store old).entries) → at.held.entry.control.marks.double ≡ true → backs ≡ []
    → IsParcelUnder (store mid) id [] (next_draft at.held (control_by None at.held.entry.control)) [] parcel → Makes mid id (Return old.terms id backs moment) parcel
makes_none old mid id moment backs parcel at same up double none is = record {
  children = [];
  parent = next_draft at.held (control_by None at.held.entry.control);
  is = subst (λ (q : List ℕ). IsParcelUnder (store mid) id [] (next_draft at.held (control_by None at.held.entry.control)) q parcel) (sym is.body_is) is;
  last = λ h. h;
  leads = λ table holds.
      ap (λ (d : Control). after_commit table [] (next_draft at.held d) parcel.body (Some id)) (dead_control table.next at.held.entry.control double)
      ∙ ap (λ (q : List Back). with_children old.terms moment table id q (with_returns table.next at.held.entry.control)) (sym none)
      ∙ found_after old mid id at table (λ c. with_children old.terms moment table id backs (with_returns table.next c)) same up holds;
}

-- with a bounce
makes_one : (old mid : Kept) (id : ℕ) (moment : ℕ) (backs : List Back) (back : Back) (parcel : Parcel) (at : IsOpenAt old id) → IsSame old mid → IsStrictlySortedBy nat_cmp (map (λ (h : Held). h.entry.id) (store old).entries) → at.held.entry.control.marks.double ≡ false → backs ≡ back ∷ []
    → IsParcelUnder (store mid) id (drafts_of old.terms back.message moment back.cuts) (next_draft at.held (control_by (Some (store old).next) at.held.entry.control)) back.message.body parcel → Makes mid id (Return old.terms id backs moment) parcel
makes_one old mid id moment backs back parcel at same up double one is = record {
  children = drafts_of old.terms back.message moment back.cuts;
  parent = next_draft at.held (control_by (Some (store old).next) at.held.entry.control);
  is = subst (λ (q : List ℕ). IsParcelUnder (store mid) id (drafts_of old.terms back.message moment back.cuts) (next_draft at.held (control_by (Some (store old).next) at.held.entry.control)) q parcel) (sym is.body_is) is;
  last = λ h. h;
  leads = λ table holds.
      let next : (store old).next ≡ table.next = sym (ap (λ (q : StoreSeen). q.next) same.1) ∙ holds.next in
      ap (λ (n : ℕ). after_commit table (drafts_of old.terms back.message moment back.cuts) (next_draft at.held (control_by (Some n) at.held.entry.control)) parcel.body (Some id)) next
      ∙ ap (λ (d : Control). after_commit table (drafts_of old.terms back.message moment back.cuts) (next_draft at.held d) parcel.body (Some id)) (bounce_control table.next at.held.entry.control double)
      ∙ one_child old.terms moment table id back at.held (with_returns table.next at.held.entry.control) parcel.body is.body_is
      ∙ ap (λ (q : List Back). with_children old.terms moment table id q (with_returns table.next at.held.entry.control)) (sym one)
      ∙ found_after old mid id at table (λ c. with_children old.terms moment table id backs (with_returns table.next c)) same up holds;
}

-- with a warning
makes_warning : (old mid : Kept) (id : ℕ) (moment : ℕ) (backs : List Back) (back : Back) (parcel : Parcel) (at : IsOpenAt old id) → IsSame old mid → IsStrictlySortedBy nat_cmp (map (λ (h : Held). h.entry.id) (store old).entries) → backs ≡ back ∷ []
    → IsParcelUnder (store mid) id (drafts_of old.terms back.message moment back.cuts) (next_draft at.held (with_warning at.held.entry.control)) back.message.body parcel → Makes mid id (Warn old.terms id backs moment) parcel
makes_warning old mid id moment backs back parcel at same up one is = record {
  children = drafts_of old.terms back.message moment back.cuts;
  parent = next_draft at.held (with_warning at.held.entry.control);
  is = subst (λ (q : List ℕ). IsParcelUnder (store mid) id (drafts_of old.terms back.message moment back.cuts) (next_draft at.held (with_warning at.held.entry.control)) q parcel) (sym is.body_is) is;
  last = λ h. h;
  leads = λ table holds.
      one_child old.terms moment table id back at.held (with_warning at.held.entry.control) parcel.body is.body_is
      ∙ ap (λ (q : List Back). with_children old.terms moment table id q (with_warning at.held.entry.control)) (sym one)
      ∙ found_after old mid id at table (λ c. with_children old.terms moment table id backs (with_warning c)) same up holds;
}

-- what is ready is the command
pub return_none : (old mid : Kept) (id : ℕ) (moment : ℕ) (backs : List Back) (r : Result Parcel StoreFault) (asked : IsAsked old (Return old.terms id backs moment)) → AreFitting (store old) → IsSame old mid → IsStrictlySortedBy nat_cmp (map (λ (h : Held). h.entry.id) (store old).entries) → backs ≡ []
    → IfOk r (λ parcel. (h : Held) → Contains (store old).entries h → h.entry.id ≡ id → IsParcelUnder (store mid) id [] (next_draft h (control_by None h.entry.control)) [] parcel)
    → IfOk r (Makes mid id (Return old.terms id backs moment))
return_none old mid id moment backs (Ok parcel) asked fit same up none is =
    let at = open_at old asked.table id fit asked.holds asked.can.has asked.can.waits in
    let control = open_control old asked.table id fit asked.holds asked.can.has asked.can.waits in
    makes_none old mid id moment backs parcel at same up (ap (λ (q : Control). q.marks.double) control ∙ no_bounce asked.can.has.entry.control.marks.double backs asked.can.bounces_are none) none (is at.held at.among at.is)
return_none old mid id moment backs (Err e) asked fit same up none is = tt

pub return_one : (old mid : Kept) (id : ℕ) (moment : ℕ) (backs xs : List Back) (back : Back) (r : Result Parcel StoreFault) (asked : IsAsked old (Return old.terms id backs moment)) → AreFitting (store old) → IsSame old mid → IsStrictlySortedBy nat_cmp (map (λ (h : Held). h.entry.id) (store old).entries) → backs ≡ xs ++ back ∷ []
    → IfOk r (λ parcel. (h : Held) → Contains (store old).entries h → h.entry.id ≡ id → IsParcelUnder (store mid) id (drafts_of old.terms back.message moment back.cuts) (next_draft h (control_by (Some (store old).next) h.entry.control)) back.message.body parcel)
    → IfOk r (Makes mid id (Return old.terms id backs moment))
return_one old mid id moment backs xs back (Ok parcel) asked fit same up one is =
    let at = open_at old asked.table id fit asked.holds asked.can.has asked.can.waits in
    let control = open_control old asked.table id fit asked.holds asked.can.has asked.can.waits in
    let b = one_bounce asked.can.has.entry.control.marks.double backs xs back asked.can.bounces_are one in
    makes_one old mid id moment backs back parcel at same up (ap (λ (q : Control). q.marks.double) control ∙ b.single) b.one (is at.held at.among at.is)
return_one old mid id moment backs xs back (Err e) asked fit same up one is = tt

pub warned_one : (old mid : Kept) (id : ℕ) (moment : ℕ) (backs xs : List Back) (back : Back) (r : Result Parcel StoreFault) (asked : IsAsked old (Warn old.terms id backs moment)) → AreFitting (store old) → IsSame old mid → IsStrictlySortedBy nat_cmp (map (λ (h : Held). h.entry.id) (store old).entries) → backs ≡ xs ++ back ∷ []
    → IfOk r (λ parcel. (h : Held) → Contains (store old).entries h → h.entry.id ≡ id → IsParcelUnder (store mid) id (drafts_of old.terms back.message moment back.cuts) (next_draft h (with_warning h.entry.control)) back.message.body parcel)
    → IfOk r (Makes mid id (Warn old.terms id backs moment))
warned_one old mid id moment backs xs back (Ok parcel) asked fit same up one is =
    let at = open_at old asked.table id fit asked.holds asked.can.has asked.can.waits in
    makes_warning old mid id moment backs back parcel at same up (one_warning backs xs back asked.can.warning asked.can.one one) (is at.held at.among at.is)
warned_one old mid id moment backs xs back (Err e) asked fit same up one is = tt

-- the cuts of one message are those of all
cuts_one : (backs : List Back) (back : Back) → backs ≡ back ∷ [] → sum_by (λ (q : Back). length q.cuts) backs ≡ length back.cuts
cuts_one backs back one =
    let same = ap (λ (q : List Back). sum_by (λ (b : Back). length b.cuts) q) one in
    omega (arith, same)

pub return_cuts : (old : Kept) (id : ℕ) (moment : ℕ) (backs xs : List Back) (back : Back) (asked : IsAsked old (Return old.terms id backs moment)) → backs ≡ xs ++ back ∷ [] → sum_by (λ (q : Back). length q.cuts) backs ≡ length back.cuts
return_cuts old id moment backs xs back asked e = cuts_one backs back (one_bounce asked.can.has.entry.control.marks.double backs xs back asked.can.bounces_are e).one

pub warn_cuts : (old : Kept) (id : ℕ) (moment : ℕ) (backs xs : List Back) (back : Back) (asked : IsAsked old (Warn old.terms id backs moment)) → backs ≡ xs ++ back ∷ [] → sum_by (λ (q : Back). length q.cuts) backs ≡ length back.cuts
warn_cuts old id moment backs xs back asked e = cuts_one backs back (one_warning backs xs back asked.can.warning asked.can.one e)

-- ids are spent by as many cuts
pub spent_by : (S : Type 0) (next n m : ℕ) → m ≡ n → (S ↔ (999_999_999_999 + 1 < next + n)) → S ↔ (999_999_999_999 + 1 < next + m)
spent_by S next n m e h = subst (λ (k : ℕ). S ↔ (999_999_999_999 + 1 < next + k)) (sym e) h

-- or by none
pub spent_none : (S : Type 0) (next : ℕ) (backs : List Back) → backs ≡ [] → (S ↔ (999_999_999_999 + 1 < next)) → S ↔ (999_999_999_999 + 1 < next + sum_by (λ (q : Back). length q.cuts) backs)
spent_none S next backs none h =
    let e : sum_by (λ (q : Back). length q.cuts) backs ≡ 0 = ap (λ (q : List Back). sum_by (λ (b : Back). length b.cuts) q) none in
    (λ s. let lt = h.0 s in omega (arith, lt, e), λ lt. h.1 (omega (arith, lt, e)))

-- a draft of an entry's parts is that of its next control
pub draft_is : (id : ℕ) (dir : List ℕ) (control : Control) (change : Control → Control) (entry : Entry) (h : Held) → entry ≡ h.entry → dir ≡ entry.dir → control ≡ change entry.control → h.entry.id ≡ id → record { id = Some id; dir = dir; control = control } ≡ next_draft h (change h.entry.control)
draft_is id dir control change entry h e d c has =
    let dirs : dir ≡ h.entry.dir = d ∙ ap (λ (q : Entry). q.dir) e in
    let controls : control ≡ change h.entry.control = c ∙ ap (λ (q : Entry). change q.control) e in
    let named : Some id ≡ Some h.entry.id = ap (λ (n : ℕ). Some n) (sym has) in
    λ i. record { id = named i; dir = dirs i; control = controls i }

-- the id of a bounce is the first free one
pub renamed : (s : StoreSeen) (entries : List Held) (id m n : ℕ) (children : List Draft) (b : List ℕ) (r : Result Parcel StoreFault) → m ≡ n → IfOk r (λ parcel. (h : Held) → Contains entries h → h.entry.id ≡ id → IsParcelUnder s id children (next_draft h (control_by (Some m) h.entry.control)) b parcel)
    → IfOk r (λ parcel. (h : Held) → Contains entries h → h.entry.id ≡ id → IsParcelUnder s id children (next_draft h (control_by (Some n) h.entry.control)) b parcel)
renamed s entries id m n children b r same is = subst (λ (q : ℕ). IfOk r (λ parcel. (h : Held) → Contains entries h → h.entry.id ≡ id → IsParcelUnder s id children (next_draft h (control_by (Some q) h.entry.control)) b parcel)) same is

-- where an entry may be given back, or warned of, it is open
pub return_open : (old : Kept) (id : ℕ) (moment : ℕ) (backs : List Back) → AreFitting (store old) → IsAsked old (Return old.terms id backs moment) → IsOpenAt old id
return_open old id moment backs fit asked = open_at old asked.table id fit asked.holds asked.can.has asked.can.waits

pub warn_open : (old : Kept) (id : ℕ) (moment : ℕ) (backs : List Back) → AreFitting (store old) → IsAsked old (Warn old.terms id backs moment) → IsOpenAt old id
warn_open old id moment backs fit asked = open_at old asked.table id fit asked.holds asked.can.has asked.can.waits

last_all : (P : Back → Type 0) (xs : List Back) (x : Back) → All P (xs ++ x ∷ []) → P x
last_all P [] x all = All-head P x [] all
last_all P (y ∷ ys) x all = last_all P ys x (All-tail P y (ys ++ x ∷ []) all)

-- the one message among those that are given is valid
pub last_valid : (terms : Terms) (moment : ℕ) (backs xs : List Back) (back : Back) → AreBacksValid terms moment backs → backs ≡ xs ++ back ∷ [] → AreValid terms back.message moment back.cuts
last_valid terms moment backs xs back valid e = last_all (λ (q : Back). AreValid terms q.message moment q.cuts) xs back (subst (All (λ (q : Back). AreValid terms q.message moment q.cuts)) e valid)

-- what ends in nothing is nothing
pub popped_none : (backs items : List Back) (len : ℕ) → items ≡ backs → len ≡ length items → (IsSome {T = Back} None ↔ (0 < len)) → backs ≡ []
popped_none backs [] len e l v = sym e
popped_none backs (x ∷ xs) len e l v = absurd (cc (v.1 (omega (arith, l))))

-- an id that is not lacking is within the limit
pub low : (b : Bool) (next len : ℕ) → b ≡ false → (IsTrue b ↔ (999_999_999_999 + 1 < next + len)) → 0 < len → next ≤ 999_999_999_999
low b next len f e some = ⊎_elim
    (λ (lt : 999_999_999_999 < next). absurd (cc (f, e.1 (omega (arith, lt, some)))))
    (λ (le : next ≤ 999_999_999_999). le)
    (cases_lt 999_999_999_999 next)
