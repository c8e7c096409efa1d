-- Each command leaves a sound table.
use Rattle.std.proofs.Common.{◌≡◌, ℕ, zero, suc, ◌+◌, ◌<◌, ◌≤◌, ◌^◌, List, [], ◌∷◌, ◌++◌, map, length, Option, Some, None, Bool, true, false, if◌then◌else◌, true≢false, refl, sym, ◌∙◌, ap, subst, arith, eq-eqb, Contains}
use Rattle.std.specs.Prelude.{All, IfSome, eqb, not, sum_by}
use Rattle.std.specs.List.Sorted.{IsStrictlySortedBy}
use Rattle.std.specs.Ordering.{nat_cmp}
use Rattle.std.proofs.Math.Nat.{le_trans, le_refl}
use Rattle.std.proofs.lemmas.List.{append-nil, length-map}
use Rattle.std.proofs.lemmas.Option.{IfSome_then}
use Rattle.std.proofs.lemmas.List.Elements.{All-head, All-tail, All-nil, All-cons, All-append, All-weaker, All-map, All-contains, Contains-get_or, Contains-append_left, Contains-append_right}
use Rattle.mail_base.specs.declared.control.Control.{Control}
use Rattle.mail_base.specs.declared.control.Draft.{Draft}
use Rattle.mail_base.specs.declared.control.Parent.{Parent}
use Rattle.mail_base.specs.declared.control.Row.{Row}
use Rattle.mail_base.specs.declared.control.State.{State}
use Rattle.mail_base.specs.declared.control.State.TheVariants.{Queued, Sent, Failed, Returned, Dead}
use Rattle.mail_base.specs.declared.draw.Draw.{Draw}
use Rattle.mail_base.specs.declared.message.Back.{Back}
use Rattle.mail_base.specs.declared.message.Cut.{Cut}
use Rattle.mail_base.specs.declared.message.Message.{Message}
use Rattle.mail_base.specs.declared.outcome.Result1.{Result1}
use Rattle.mail_base.specs.declared.outcome.Result1.TheVariants.{Sent as WasSent, Deferred as WasDeferred, Failed as HasFailed}
use Rattle.spool_store.specs.Entries.{Stored, Table, ids, replaced, with_control}
use Rattle.spool_store.specs.Keepers.{raised, after_replace}
use Rattle.spool_store.specs.Writes.{numbered, stored, heir}
use Rattle.queue_table.specs.Commands.{Command, after, brought, new_row, draft_of, drafts_of, with_children}
use Rattle.queue_table.specs.Commands.Command.{Accept, Record, Return, Warn}
use Rattle.queue_table.specs.Results.{is_old, recorded, restated, state_after, with_results, given_back, with_returns, with_warning}
use Rattle.queue_table.specs.Soundness.{AreBounces, AreCuts, CanDo, HasEntry, IsBounce, IsHeir, IsMeant, IsSound, IsSoundEntry}
use Rattle.queue_table.specs.declared.terms.Terms.{Terms}
use Rattle.spool_store.proofs.Adding.{sorted_append}
use Rattle.spool_store.proofs.Numbering.{first_ascends, numbered_ascends}
use Rattle.spool_store.proofs.Replacing.{contains_map, id_stays, ids_stay, raised_least}
use Rattle.spool_store.proofs.Standing.{contains_head}
use Rattle.queue_table.proofs.EntryLemmas.{changed_each}
use Rattle.queue_table.proofs.GoingLemmas.{at_entry}

-- what is still there of an entry
record IsKept (new : List Stored) (a : Stored) : Type 0 where
  pub now : Stored
  pub among : Contains new now
  pub id : now.id ≡ a.id
  pub revision : a.control.revision ≤ now.control.revision
  pub bounce : now.control.marks.bounce ≡ a.control.marks.bounce

abbrev IsWider : List Stored → List Stored → Type 0
IsWider old new = (a : Stored) → Contains old a → IsKept new a

heir_wider : (old new : List Stored) (id : ℕ) (p : Parent) → IsWider old new → IsHeir old id p → IsHeir new id p
heir_wider old new id p w h =
    let k = w h.above h.among in
    record { above = k.now; among = k.among; is = k.id ∙ h.is; less = h.less; revision = le_trans h.revision k.revision }

bounce_wider : (old new : List Stored) (id : ℕ) → IsWider old new → IsBounce old id → IsBounce new id
bounce_wider old new id w h =
    let k = w h.bounce h.among in
    record { bounce = k.now; among = k.among; is = k.id ∙ h.is; marked = k.bounce ∙ h.marked }

meant_wider : (old new : List Stored) (double : Bool) (s : State) → IsWider old new → IsMeant old double s → IsMeant new double s
meant_wider old new double (Queued _) w h = tt
meant_wider old new double Sent w h = tt
meant_wider old new double (Failed _ _) w h = tt
meant_wider old new double (Returned id) w h = bounce_wider old new id w h
meant_wider old new double (Dead _ _) w h = h

states_wider : (old new : List Stored) (double : Bool) (rows : List Row) → IsWider old new → All (λ row. IsMeant old double row.state) rows → All (λ row. IsMeant new double row.state) rows
states_wider old new double rows w h = All-weaker (λ (row : Row). IsMeant old double row.state) (λ (row : Row). IsMeant new double row.state) (λ row m. meant_wider old new double row.state w m) rows h

entry_wider : (old new : List Stored) (s : Stored) → IsWider old new → IsSoundEntry old s → IsSoundEntry new s
entry_wider old new s w h = record {
  rows = h.rows;
  parent = IfSome_then s.control.parent h.parent (λ p is. heir_wider old new s.id p w is);
  states = states_wider old new s.control.marks.double s.control.rows w h.states;
  revision = h.revision;
}

all_in : (P : Stored → Type 0) (xs : List Stored) → ((a : Stored) → Contains xs a → P a) → All P xs
all_in P xs each = λ k d lt. each _ (Contains-get_or xs k d lt)

-- what a new control has to keep
record IsNext (new : List Stored) (old now : Control) : Type 0 where
  pub parent : now.parent ≡ old.parent
  pub more : old.revision ≤ now.revision
  pub fits : now.revision < 2 ^ 64
  pub bounce : now.marks.bounce ≡ old.marks.bounce
  pub rows : 0 < length now.rows
  pub states : All (λ row. IsMeant new now.marks.double row.state) now.rows

-- what is added
record IsAddition (new : List Stored) (next more : ℕ) (s : Stored) : Type 0 where
  pub least : next ≤ s.id
  pub most : s.id < more
  pub sound : IsSoundEntry new s

raised_fits : (n : ℕ) → raised n < 2 ^ 64
raised_fits n = omega arith

none_ascends : IsStrictlySortedBy nat_cmp (ids [])
unfolding IsStrictlySortedBy
none_ascends = tt

-- an entry and what became of it
record IsAsKept (a b : Stored) : Type 0 where
  pub id : b.id ≡ a.id
  pub revision : a.control.revision ≤ b.control.revision
  pub bounce : b.control.marks.bounce ≡ a.control.marks.bounce

as_kept : (a : Stored) → IsAsKept a a
as_kept a = record { id = refl; revision = le_refl a.control.revision; bounce = refl }

changed_wider : (table : Table) (id : ℕ) (d : Control) (added new : List Stored) (has : HasEntry table id) → IsSound table → new ≡ with_control id d table.entries ++ added → has.entry.control.revision ≤ d.revision → d.marks.bounce ≡ has.entry.control.marks.bounce → IsWider table.entries new
changed_wider table id d added new has sound e more bounce a m =
    let k = changed_each IsAsKept id d table.entries has.entry sound.ascending has.among has.is (λ x among. as_kept x)
    (record { id = refl; revision = more; bounce = bounce }) a m in
    record {
      now = replaced id d a;
      among = subst (λ (q : List Stored). Contains q (replaced id d a)) (sym e) (Contains-append_left (with_control id d table.entries) added (replaced id d a) (contains_map (replaced id d) a table.entries m));
      id = k.id;
      revision = k.revision;
      bounce = k.bounce;
    }

next_sound : (old new : List Stored) (s : Stored) (d : Control) → IsWider old new → IsSoundEntry old s → IsNext new s.control d → IsSoundEntry new (record { id = s.id; dir = s.dir; control = d; body = s.body })
next_sound old new s d w h nx = record {
  rows = nx.rows;
  parent = subst (λ (o : Option Parent). IfSome o (IsHeir new s.id)) (sym nx.parent) (IfSome_then s.control.parent h.parent (λ p is. heir_wider old new s.id p w is));
  states = nx.states;
  revision = nx.fits;
}

additions_below : (new : List Stored) (next more : ℕ) (added : List Stored) → All (IsAddition new next more) added → All (λ s. s.id < more) added
additions_below new next more added h = All-weaker (IsAddition new next more) (λ (s : Stored). s.id < more) (λ s a. a.most) added h

additions_above : (new : List Stored) (next more : ℕ) (added : List Stored) → All (IsAddition new next more) added → All (λ s. next ≤ s.id) added
additions_above new next more added h = All-weaker (IsAddition new next more) (λ (s : Stored). next ≤ s.id) (λ s a. a.least) added h

additions_sound : (new : List Stored) (next more : ℕ) (added : List Stored) → All (IsAddition new next more) added → All (IsSoundEntry new) added
additions_sound new next more added h = All-weaker (IsAddition new next more) (IsSoundEntry new) (λ s a. a.sound) added h

all_of : (P : Stored → Type 0) (xs ys new : List Stored) → new ≡ xs ++ ys → All P xs → All P ys → All P new
all_of P xs ys new e h k = subst (λ (q : List Stored). All P q) (sym e) (All-append P xs ys h k)

-- a table with another control of an entry, and with new entries
changed_sound : (table : Table) (id more : ℕ) (d : Control) (added new : List Stored) (has : HasEntry table id) → IsSound table → new ≡ with_control id d table.entries ++ added → IsNext new has.entry.control d → IsStrictlySortedBy nat_cmp (ids added) → All (IsAddition new table.next more) added → table.next ≤ more → IsSound (record { entries = new; next = more })
changed_sound table id more d added new has sound e nx up fresh le =
    let es = table.entries in
    let now = with_control id d es in
    let w = changed_wider table id d added new has sound e nx.more nx.bounce in
    let below : All (λ s. s.id < table.next) now = All-map (λ (s : Stored). s.id < table.next) (replaced id d) es
    (all_in (λ (a : Stored). (replaced id d a).id < table.next) es
    (λ a m. let lt : a.id < table.next = All-contains (λ (s : Stored). s.id < table.next) es a sound.below m in
    subst (λ (n : ℕ). n < table.next) (sym (id_stays id d a)) lt)) in
    record {
      ascending = subst (λ (q : List Stored). IsStrictlySortedBy nat_cmp (ids q)) (sym e)
          (sorted_append now added table.next (subst (IsStrictlySortedBy nat_cmp) (sym (ids_stay id d es)) sound.ascending) up below (additions_above new table.next more added fresh));
      below = all_of (λ (s : Stored). s.id < more) now added new e (All-weaker (λ (s : Stored). s.id < table.next) (λ (s : Stored). s.id < more) (λ s lt. omega (arith, lt, le)) now below) (additions_below new table.next more added fresh);
      each = all_of (IsSoundEntry new) now added new e
          (All-map (IsSoundEntry new) (replaced id d) es (all_in (λ (a : Stored). IsSoundEntry new (replaced id d a)) es
          (changed_each (λ (x y : Stored). IsSoundEntry new y) id d es has.entry sound.ascending has.among has.is
          (λ a m. entry_wider es new a w (All-contains (IsSoundEntry es) es a sound.each m))
          (next_sound es new has.entry d w (All-contains (IsSoundEntry es) es has.entry sound.each has.among) nx))))
          (additions_sound new table.next more added fresh);
    }

-- a draft of a new entry
record IsFresh (parent : Option Parent) (bounce : Bool) (d : Draft) : Type 0 where
  pub rows : 0 < length d.control.rows
  pub queued : All (λ row. row.state ≡ Queued None) d.control.rows
  pub first : d.control.revision ≡ 1
  pub under : d.control.parent ≡ parent
  pub marked : d.control.marks.bounce ≡ bounce

new_queued : (draws : List Draw) → All (λ row. row.state ≡ Queued None) (map new_row draws)
new_queued draws = All-map (λ (row : Row). row.state ≡ Queued None) new_row draws (λ k d lt. refl)

draft_fresh : (terms : Terms) (message : Message) (moment : ℕ) (cut : Cut) → 0 < length cut.rows → IsFresh None message.marks.bounce (draft_of terms message moment cut)
draft_fresh terms message moment cut some = record {
  rows = subst (λ (n : ℕ). 0 < n) (sym (length-map cut.rows new_row)) some;
  queued = new_queued cut.rows;
  first = refl;
  under = refl;
  marked = refl;
}

heirs_fresh : (terms : Terms) (message : Message) (moment : ℕ) (p : Parent) (cuts : List Cut) → All (λ cut. 0 < length cut.rows) cuts → All (IsFresh (Some p) message.marks.bounce) (map (heir p) (drafts_of terms message moment cuts))
heirs_fresh terms message moment p [] some = All-nil (IsFresh (Some p) message.marks.bounce)
heirs_fresh terms message moment p (cut ∷ cuts) some =
    let d = draft_fresh terms message moment cut (All-head (λ (c : Cut). 0 < length c.rows) cut cuts some) in
    All-cons (IsFresh (Some p) message.marks.bounce) (heir p (draft_of terms message moment cut)) (map (heir p) (drafts_of terms message moment cuts))
    (record { rows = d.rows; queued = d.queued; first = refl; under = refl; marked = refl })
    (heirs_fresh terms message moment p cuts (All-tail (λ (c : Cut). 0 < length c.rows) cut cuts some))

fresh_sound : (new : List Stored) (id : ℕ) (b : List ℕ) (parent : Option Parent) (bounce : Bool) (d : Draft) → IfSome parent (IsHeir new id) → IsFresh parent bounce d → IsSoundEntry new (stored id b d)
fresh_sound new id b parent bounce d heir h = record {
  rows = h.rows;
  parent = subst (λ (o : Option Parent). IfSome o (IsHeir new id)) (sym h.under) heir;
  states = All-weaker (λ (row : Row). row.state ≡ Queued None) (λ (row : Row). IsMeant new d.control.marks.double row.state) (λ row e. subst (IsMeant new d.control.marks.double) (sym e) tt) d.control.rows h.queued;
  revision = omega (arith, h.first);
}

numbered_sound : (new : List Stored) (next least more id : ℕ) (b : List ℕ) (p : Parent) (bounce : Bool) (ds : List Draft) → ((n : ℕ) → least ≤ n → IsHeir new n p) → All (IsFresh (Some p) bounce) ds → least ≤ id → next ≤ id → id + length ds ≤ more → All (IsAddition new next more) (numbered id b ds)
numbered_sound new next least more id b p bounce [] heirs fresh low le most = All-nil (IsAddition new next more)
numbered_sound new next least more id b p bounce (d ∷ ds) heirs fresh low le most =
    All-cons (IsAddition new next more) (stored id b d) (numbered (id + 1) b ds)
    (record { least = le; most = omega (arith, most); sound = fresh_sound new id b (Some p) bounce d (heirs id low) (All-head (IsFresh (Some p) bounce) d ds fresh) })
    (numbered_sound new next least more (id + 1) b p bounce ds heirs (All-tail (IsFresh (Some p) bounce) d ds fresh) (omega (arith, low)) (omega (arith, le)) (omega (arith, most)))

drafts_count : (terms : Terms) (message : Message) (moment : ℕ) (p : Parent) (cuts : List Cut) → length (map (heir p) (drafts_of terms message moment cuts)) ≡ length cuts
drafts_count terms message moment p cuts = length-map (drafts_of terms message moment cuts) (heir p) ∙ length-map cuts (draft_of terms message moment)

accept_sound : (table : Table) (terms : Terms) (message : Message) (cuts : List Cut) (moment : ℕ) → IsSound table → AreCuts cuts → IsSound (after table (Accept terms message cuts moment))
accept_sound table terms message [] moment sound can = sound
accept_sound table terms message (cut ∷ cuts) moment sound can =
    let p : Parent = record { id = table.next; revision = 1 } in
    let es = table.entries in
    let ds = map (heir p) (drafts_of terms message moment cuts) in
    let d = draft_of terms message moment cut in
    let first = stored table.next message.body d in
    let rest = numbered (table.next + 1) message.body ds in
    let new = es ++ first ∷ rest in
    let more = table.next + 1 + length (drafts_of terms message moment cuts) in
    let among : Contains new first = Contains-append_right es (first ∷ rest) first (contains_head first rest) in
    let heirs : (n : ℕ) → table.next + 1 ≤ n → IsHeir new n p = λ n le. record { above = first; among = among; is = refl; less = omega (arith, le); revision = le_refl 1 } in
    let some = All-head (λ (c : Cut). 0 < length c.rows) cut cuts can.each in
    let count : length ds ≡ length (drafts_of terms message moment cuts) = length-map (drafts_of terms message moment cuts) (heir p) in
    let fresh : All (IsAddition new table.next more) (first ∷ rest) = All-cons (IsAddition new table.next more) first rest
    (record { least = le_refl table.next; most = omega arith; sound = fresh_sound new table.next message.body None message.marks.bounce d tt (draft_fresh terms message moment cut some) })
    (numbered_sound new table.next (table.next + 1) more (table.next + 1) message.body p message.marks.bounce ds heirs (heirs_fresh terms message moment p cuts (All-tail (λ (c : Cut). 0 < length c.rows) cut cuts can.each)) (le_refl (table.next + 1)) (omega arith) (omega (arith, count))) in
    let w : IsWider es new = λ a m. record { now = a; among = Contains-append_left es (first ∷ rest) a m; id = refl; revision = le_refl a.control.revision; bounce = refl } in
    record {
      ascending = sorted_append es (first ∷ rest) table.next sound.ascending (first_ascends first message.body ds) sound.below (additions_above new table.next more (first ∷ rest) fresh);
      below = All-append (λ (s : Stored). s.id < more) es (first ∷ rest) (All-weaker (λ (s : Stored). s.id < table.next) (λ (s : Stored). s.id < more) (λ s lt. omega (arith, lt)) es sound.below) (additions_below new table.next more (first ∷ rest) fresh);
      each = All-append (IsSoundEntry new) es (first ∷ rest) (all_in (IsSoundEntry new) es (λ a m. entry_wider es new a w (All-contains (IsSoundEntry es) es a sound.each m))) (additions_sound new table.next more (first ∷ rest) fresh);
    }

-- rows after an attempt
tried_meant : (new : List Stored) (double old : Bool) (r : Result1) → IsMeant new double (state_after old r)
tried_meant new double old WasSent = tt
tried_meant new double true (WasDeferred note) = tt
tried_meant new double false (WasDeferred note) = tt
tried_meant new double old (HasFailed status note) = tt

restated_meant : (new : List Stored) (double : Bool) (place : ℕ) (s : State) (rows : List Row) → IsMeant new double s → All (λ row. IsMeant new double row.state) rows → All (λ row. IsMeant new double row.state) (restated place s rows)
restated_meant new double place s [] m h = h
restated_meant new double zero s (row ∷ rows) m h = All-cons (λ (r : Row). IsMeant new double r.state) (record row { state = s }) rows m (All-tail (λ (r : Row). IsMeant new double r.state) row rows h)
restated_meant new double (suc place) s (row ∷ rows) m h = All-cons (λ (r : Row). IsMeant new double r.state) row (restated place s rows) (All-head (λ (r : Row). IsMeant new double r.state) row rows h) (restated_meant new double place s rows m (All-tail (λ (r : Row). IsMeant new double r.state) row rows h))

results_meant : (new : List Stored) (double old : Bool) (places : List ℕ) (results : List Result1) (rows : List Row) → All (λ row. IsMeant new double row.state) rows → All (λ row. IsMeant new double row.state) (with_results old places results rows)
results_meant new double old [] results rows h = h
results_meant new double old (p ∷ places) [] rows h = h
results_meant new double old (p ∷ places) (r ∷ results) rows h = results_meant new double old places results (restated p (state_after old r) rows) (restated_meant new double p (state_after old r) rows (tried_meant new double old r) h)

restated_length : (place : ℕ) (s : State) (rows : List Row) → length (restated place s rows) ≡ length rows
restated_length place s [] = refl
restated_length zero s (row ∷ rows) = refl
restated_length (suc place) s (row ∷ rows) = ap suc (restated_length place s rows)

results_length : (old : Bool) (places : List ℕ) (results : List Result1) (rows : List Row) → length (with_results old places results rows) ≡ length rows
results_length old [] results rows = refl
results_length old (p ∷ places) [] rows = refl
results_length old (p ∷ places) (r ∷ results) rows = results_length old places results (restated p (state_after old r) rows) ∙ restated_length p (state_after old r) rows

-- a row that is given back
back_meant : (new : List Stored) (double : Bool) (id : ℕ) (s : State) → (double ≡ false → IsBounce new id) → IsMeant new double s → IsMeant new double (given_back double id s)
back_meant new double id (Queued _) bounce h = tt
back_meant new double id Sent bounce h = tt
back_meant new false id (Failed _ _) bounce h = bounce refl
back_meant new true id (Failed _ _) bounce h = refl
back_meant new double id (Returned other) bounce h = h
back_meant new double id (Dead _ _) bounce h = h

-- what is known of the entry of an id
entry_of : (table : Table) (id : ℕ) (has : HasEntry table id) → IsSound table → IsSoundEntry table.entries has.entry
entry_of table id has sound = All-contains (IsSoundEntry table.entries) table.entries has.entry sound.each has.among

record_sound : (table : Table) (terms : Terms) (id : ℕ) (places : List ℕ) (results : List Result1) (moment : ℕ) (has : HasEntry table id) → IsSound table → IsSound (after_replace table id (recorded terms places results moment has.entry.control))
record_sound table terms id places results moment has sound =
    let c = has.entry.control in
    let d = recorded terms places results moment c in
    let new = with_control id d table.entries in
    let its = entry_of table id has sound in
    let e : new ≡ new ++ [] = sym (append-nil new) in
    let w = changed_wider table id d [] new has sound e (raised_least c.revision its.revision) refl in
    changed_sound table id table.next d [] new has sound e
    (record {
      parent = refl;
      more = raised_least c.revision its.revision;
      fits = raised_fits c.revision;
      bounce = refl;
      rows = subst (λ (n : ℕ). 0 < n) (sym (results_length (is_old terms c.created moment) places results c.rows)) its.rows;
      states = results_meant new c.marks.double (is_old terms c.created moment) places results c.rows (states_wider table.entries new c.marks.double c.rows w its.states);
    })
    none_ascends (All-nil (IsAddition new table.next table.next)) (le_refl table.next)

abbrev under : ℕ → Control → Parent
under id d = record { id = id; revision = d.revision }

-- the entry of an id after its change
here : (table : Table) (id : ℕ) (d : Control) (added new : List Stored) (has : HasEntry table id) → IsSound table → new ≡ with_control id d table.entries ++ added → (a : Stored) × Contains new a × (a.id ≡ id) × (d.revision ≤ a.control.revision)
here table id d added new has sound e =
    let a = replaced id d has.entry in
    let among : Contains new a = subst (λ (q : List Stored). Contains q a) (sym e) (Contains-append_left (with_control id d table.entries) added a (contains_map (replaced id d) has.entry table.entries has.among)) in
    let same : (a.id ≡ id) × (d.revision ≤ a.control.revision) =
    let t : eqb has.entry.id id ≡ true = eq-eqb has.entry.id id has.is in
    subst (λ (b : Bool). ((if b then record { id = has.entry.id; dir = has.entry.dir; control = d; body = has.entry.body } else has.entry).id ≡ id) × (d.revision ≤ (if b then record { id = has.entry.id; dir = has.entry.dir; control = d; body = has.entry.body } else has.entry).control.revision)) (sym t) (has.is, le_refl d.revision)
    in
    (a, among, same.0, same.1)

-- the entries of one message that is sent for an entry
back_additions : (terms : Terms) (moment : ℕ) (table : Table) (id : ℕ) (back : Back) (d : Control) (new : List Stored) (has : HasEntry table id) → IsSound table → new ≡ with_control id d table.entries ++ brought terms moment (under id d) table.next (back ∷ []) → AreCuts back.cuts → All (IsAddition new table.next (table.next + sum_by (λ (b : Back). length b.cuts) (back ∷ []))) (brought terms moment (under id d) table.next (back ∷ []))
back_additions terms moment table id back d new has sound e cuts =
    let p = under id d in
    let ds = map (heir p) (drafts_of terms back.message moment back.cuts) in
    let more = table.next + sum_by (λ (b : Back). length b.cuts) (back ∷ []) in
    let k : (a : Stored) × Contains new a × (a.id ≡ id) × (d.revision ≤ a.control.revision) = here table id d (brought terms moment p table.next (back ∷ [])) new has sound e in
    let lt : has.entry.id < table.next = All-contains (λ (s : Stored). s.id < table.next) table.entries has.entry sound.below has.among in
    let heirs : (n : ℕ) → table.next ≤ n → IsHeir new n p = λ n le. record { above = k.0; among = k.1; is = k.2; less = omega (arith, lt, le, has.is); revision = k.3 } in
    let count : length ds ≡ length back.cuts = drafts_count terms back.message moment p back.cuts in
    let fresh = numbered_sound new table.next table.next more table.next back.message.body p back.message.marks.bounce ds heirs (heirs_fresh terms back.message moment p back.cuts cuts.each) (le_refl table.next) (le_refl table.next) (omega (arith, count)) in
    All-append (IsAddition new table.next more) (numbered table.next back.message.body ds) [] fresh (All-nil (IsAddition new table.next more))

brought_ascends : (terms : Terms) (moment : ℕ) (p : Parent) (next : ℕ) (back : Back) → IsStrictlySortedBy nat_cmp (ids (brought terms moment p next (back ∷ [])))
brought_ascends terms moment p next back =
    let ds = map (heir p) (drafts_of terms back.message moment back.cuts) in
    subst (λ (q : List Stored). IsStrictlySortedBy nat_cmp (ids q)) (sym (append-nil (numbered next back.message.body ds))) (numbered_ascends next back.message.body ds)

-- an entry changes, and one message is sent for it
one_back : (terms : Terms) (moment : ℕ) (table : Table) (id : ℕ) (back : Back) (d : Control) (has : HasEntry table id) → IsSound table → AreCuts back.cuts → ((new : List Stored) → new ≡ with_control id d table.entries ++ brought terms moment (under id d) table.next (back ∷ []) → IsNext new has.entry.control d) → IsSound (with_children terms moment table id (back ∷ []) d)
one_back terms moment table id back d has sound cuts nx =
    let added = brought terms moment (under id d) table.next (back ∷ []) in
    let new = with_control id d table.entries ++ added in
    let more = table.next + sum_by (λ (b : Back). length b.cuts) (back ∷ []) in
    changed_sound table id more d added new has sound refl (nx new refl) (brought_ascends terms moment (under id d) table.next back)
    (back_additions terms moment table id back d new has sound refl cuts) (omega arith)

-- an entry changes, and no message is sent for it
no_back : (terms : Terms) (moment : ℕ) (table : Table) (id : ℕ) (d : Control) (has : HasEntry table id) → IsSound table → ((new : List Stored) → new ≡ with_control id d table.entries ++ [] → IsNext new has.entry.control d) → IsSound (with_children terms moment table id [] d)
no_back terms moment table id d has sound nx =
    let new = with_control id d table.entries ++ [] in
    let more = table.next + 0 in
    changed_sound table id more d [] new has sound refl (nx new refl) none_ascends (All-nil (IsAddition new table.next more)) (omega arith)

warned_next : (table : Table) (id : ℕ) (added new : List Stored) (has : HasEntry table id) → IsSound table → new ≡ with_control id (with_warning has.entry.control) table.entries ++ added → IsNext new has.entry.control (with_warning has.entry.control)
warned_next table id added new has sound e =
    let c = has.entry.control in
    let its = entry_of table id has sound in
    let w = changed_wider table id (with_warning c) added new has sound e (raised_least c.revision its.revision) refl in
    record {
      parent = refl;
      more = raised_least c.revision its.revision;
      fits = raised_fits c.revision;
      bounce = refl;
      rows = its.rows;
      states = states_wider table.entries new c.marks.double c.rows w its.states;
    }

returned_next : (table : Table) (id first : ℕ) (added new : List Stored) (has : HasEntry table id) → IsSound table → new ≡ with_control id (with_returns first has.entry.control) table.entries ++ added → (has.entry.control.marks.double ≡ false → IsBounce new first) → IsNext new has.entry.control (with_returns first has.entry.control)
returned_next table id first added new has sound e bounce =
    let c = has.entry.control in
    let its = entry_of table id has sound in
    let w = changed_wider table id (with_returns first c) added new has sound e (raised_least c.revision its.revision) refl in
    let double = c.marks.double in
    let change : Row → Row = λ row. record row { state = given_back double first row.state } in
    let were : All (λ row. IsMeant new double row.state) c.rows = states_wider table.entries new double c.rows w its.states in
    record {
      parent = refl;
      more = raised_least c.revision its.revision;
      fits = raised_fits c.revision;
      bounce = refl;
      rows = subst (λ (n : ℕ). 0 < n) (sym (length-map c.rows change)) its.rows;
      states = All-map (λ (row : Row). IsMeant new double row.state) change c.rows
          (All-weaker (λ (row : Row). IsMeant new double row.state) (λ (row : Row). IsMeant new double (change row).state) (λ row m. back_meant new double first row.state bounce m) c.rows were);
    }

-- the first entry of a bounce is one
first_bounce : (terms : Terms) (moment : ℕ) (p : Parent) (next : ℕ) (back : Back) (cuts : List Cut) (before new : List Stored) → back.cuts ≡ cuts → 0 < length cuts → back.message.marks.bounce ≡ true → new ≡ before ++ (numbered next back.message.body (map (heir p) (drafts_of terms back.message moment cuts)) ++ []) → IsBounce new next
first_bounce terms moment p next back [] before new same some marked e = absurd (omega (arith, some))
first_bounce terms moment p next back (cut ∷ cuts) before new same some marked e =
    let s = stored next back.message.body (heir p (draft_of terms back.message moment cut)) in
    let rest = numbered (next + 1) back.message.body (map (heir p) (drafts_of terms back.message moment cuts)) ++ [] in
    record {
      bounce = s;
      among = subst (λ (q : List Stored). Contains q s) (sym e) (Contains-append_right before (s ∷ rest) s (contains_head s rest));
      is = refl;
      marked = marked;
    }

return_sound : (terms : Terms) (moment : ℕ) (table : Table) (id : ℕ) (bounces : List Back) (has : HasEntry table id) (double : Bool) → has.entry.control.marks.double ≡ double → IsSound table → AreBounces (not double) bounces → IsSound (with_children terms moment table id bounces (with_returns table.next has.entry.control))
return_sound terms moment table id bounces has true is sound none =
    subst (λ (q : List Back). IsSound (with_children terms moment table id q (with_returns table.next has.entry.control))) (sym none)
    (no_back terms moment table id (with_returns table.next has.entry.control) has sound
    (λ new e. returned_next table id table.next [] new has sound e (λ f. absurd (true≢false (sym is ∙ f)))))
return_sound terms moment table id bounces has false is sound one =
    let back = one.0 in
    let d = with_returns table.next has.entry.control in
    subst (λ (q : List Back). IsSound (with_children terms moment table id q d)) (sym one.1)
    (one_back terms moment table id back d has sound one.2.cuts
    (λ new e. returned_next table id table.next (brought terms moment (under id d) table.next (back ∷ [])) new has sound e
    (λ f. first_bounce terms moment (under id d) table.next back back.cuts (with_control id d table.entries) new refl one.2.cuts.some one.2.marked e)))

warn_sound : (terms : Terms) (moment : ℕ) (table : Table) (id : ℕ) (warnings : List Back) (warning : Back) (has : HasEntry table id) → warnings ≡ warning ∷ [] → IsSound table → AreCuts warning.cuts → IsSound (with_children terms moment table id warnings (with_warning has.entry.control))
warn_sound terms moment table id warnings warning has one sound cuts =
    let d = with_warning has.entry.control in
    subst (λ (q : List Back). IsSound (with_children terms moment table id q d)) (sym one)
    (one_back terms moment table id warning d has sound cuts (λ new e. warned_next table id (brought terms moment (under id d) table.next (warning ∷ [])) new has sound e))

-- each command leaves a sound table
pub command_sound : (table : Table) (command : Command) → IsSound table → CanDo table command → IsSound (after table command)
command_sound table (Accept terms message cuts moment) sound can = accept_sound table terms message cuts moment sound can
command_sound table (Record terms id places results moment) sound can =
    at_entry IsSound (λ c. after_replace table id (recorded terms places results moment c)) table id can.has sound
    (record_sound table terms id places results moment can.has sound)
command_sound table (Return terms id bounces moment) sound can =
    at_entry IsSound (λ c. with_children terms moment table id bounces (with_returns table.next c)) table id can.has sound
    (return_sound terms moment table id bounces can.has can.has.entry.control.marks.double refl sound can.bounces_are)
command_sound table (Warn terms id warnings moment) sound can =
    at_entry IsSound (λ c. with_children terms moment table id warnings (with_warning c)) table id can.has sound
    (warn_sound terms moment table id warnings can.warning can.has can.one sound can.cuts)
