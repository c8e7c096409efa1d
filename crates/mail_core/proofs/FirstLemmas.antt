-- The next entry that is claimed, in the store and in its table.
use Rattle.std.proofs.Common.{◌≡◌, ⊎_elim, ℕ, List, [], ◌∷◌, ◌++◌, Bool, true, false, not, ◌&&◌, ◌||◌, Option, Some, None, if◌then◌else◌, refl, sym, ◌∙◌, ap, subst, map, true≢false, eq-eqb, Contains, arith}
use Rattle.std.specs.Prelude.{All, eqb, nat_eq}
use Rattle.std.specs.List.{AllZip, find}
use Rattle.std.proofs.lemmas.Bool.{and_parts, eqb-true}
use Rattle.std.proofs.lemmas.List.Elements.{All-contains, All-contains_itself, All-head, All-map, All-tail, All-weaker}
use Rattle.mail_base.specs.declared.control.Entry.{Entry}
use Rattle.spool_store.specs.Entries.{Stored, Table}
use Rattle.spool_store.specs.Stores.{HasId, IsHeld, entered}
use Rattle.spool_store.specs.declared.held.Held.{Held}
use Rattle.spool_store.proofs.Replacing.{contains_map}
use Rattle.spool_store.proofs.Standing.{contains_cases, contains_head, contains_tail}
use Rattle.queue_table.specs.Calls.{HoldsTable, store}
use Rattle.queue_table.specs.Claims.{IsLeast, IsLeastDue, has_room, is_free, is_held, lane_of, may_claim}
use Rattle.queue_table.specs.Order.{IsBefore, is_due}
use Rattle.queue_table.specs.declared.table.Table.{Table as Kept}
use Rattle.queue_table.specs.declared.waiting.Waiting.{Waiting}
use Rattle.queue_run.specs.Batches.{is_among}
use Rattle.queue_run.proofs.ReadyLemmas.{one_held}
use Rattle.mail_core.specs.Holding.{IsFirst, IsNoneClaimable, IsPassed, can_claim, can_claim_by, stored_at, waiting_of}
use Rattle.mail_core.specs.Plans.{Plan, Serve, Once}
use Rattle.mail_core.specs.Sites.{Site}
use Rattle.mail_core.specs.States.{State}
use Rattle.mail_core.specs.declared.crew.Crew.{Crew}
use Rattle.mail_core.specs.Crews.{IsCrew, IsListOf}
use Rattle.mail_core.specs.inner.Nexts.{AreAscending, IsBusy, IsNext}
use Rattle.mail_core.proofs.LaneLemmas.{free_same, may_same, may_stored, none_due, same_entry, zip_all}

-- ---- the entry of an id

-- the first entry of an id, in a store and in its table
record IsFoundBy (hs : List Held) (ss : List Stored) (id : ℕ) : Type 0 where
  one : Held
  among : Contains hs one
  at : one.entry.id ≡ id
  stored : Stored
  inside : Contains ss stored
  is : find (λ (s : Stored). eqb s.id id) ss ≡ Some stored
  held : IsHeld one stored

found_by : (hs : List Held) (ss : List Stored) (h : Held) (id : ℕ) → AllZip IsHeld hs ss → Contains hs h → h.entry.id ≡ id → IsFoundBy hs ss id
found_by [] ss h id zip k is = let lt = k.1 in absurd (omega (arith, lt))
found_by (x ∷ hs) [] h id zip k is = absurd zip
found_by (x ∷ hs) (s ∷ ss) h id zip k is = by (eqb s.id id) refl (λ later. found_by hs ss h id zip.1 later is)
  where
    by : (b : Bool) → eqb s.id id ≡ b → (Contains hs h → IsFoundBy hs ss id) → IsFoundBy (x ∷ hs) (s ∷ ss) id
    by true e rest = record {
      one = x;
      among = contains_head x hs;
      at = zip.0.id ∙ eqb-true s.id id e;
      stored = s;
      inside = contains_head s ss;
      is = ap (λ (b : Bool). if b then Some s else find (λ (q : Stored). eqb q.id id) ss) e;
      held = zip.0;
    }
    by false e rest =
        let f = rest (⊎_elim (λ (p : x ≡ h). absurd (true≢false (sym (eq-eqb s.id id (sym zip.0.id ∙ ap (λ (q : Held). q.entry.id) p ∙ is)) ∙ e))) (λ later. later) (contains_cases x h hs k)) in record {
          one = f.one;
          among = contains_tail x f.one hs f.among;
          at = f.at;
          stored = f.stored;
          inside = contains_tail s f.stored ss f.inside;
          is = ap (λ (b : Bool). if b then Some s else find (λ (q : Stored). eqb q.id id) ss) e ∙ f.is;
          held = f.held;
        }

-- ---- what may be claimed in a state

-- an entry that is claimed next
pub record IsChosen (site : Site) (m : State) (kept : Kept) (crew : Crew) (id : ℕ) : Type 0 where
  pub held : Held
  pub among : Contains (store kept).entries held
  pub is : held.entry.id ≡ id
  pub stored : Stored
  pub found : stored_at id m.table ≡ Some stored
  pub same : IsHeld held stored
  pub can : can_claim site m stored ≡ true
  pub first : IsFirst site m site.plan id

-- the entry that was found is the one that is held
one_found : (kept : Kept) (table : Table) (h : Held) (id : ℕ) → AreAscending (store kept).entries → HoldsTable kept table → Contains (store kept).entries h → h.entry.id ≡ id
    → (s : Stored) × ((stored_at id table ≡ Some s) × (IsHeld h s × Contains table.entries s))
one_found kept table h id up holds k is =
    let f = found_by (store kept).entries table.entries h id holds.entries k is in
    let same : f.one ≡ h = one_held (store kept).entries f.one h up f.among k (f.at ∙ sym is) in
    (f.stored, (f.is, (subst (λ q. IsHeld q f.stored) same f.held, f.inside)))

not_true : (b : Bool) → not b ≡ true → b ≡ false
not_true true h = sym h
not_true false h = refl

-- a free entry is held by nobody
pub free_out : (w : Waiting) (h : Held) → is_free w h ≡ true → is_held w.holders h.entry.id ≡ false
free_out w h free = not_true (is_held w.holders h.entry.id) ((and_parts (not (is_held w.holders h.entry.id)) (has_room w.holders (lane_of w h.entry.control.group)) free).0)

may_free : (w : Waiting) (moment : ℕ) (h : Held) → may_claim w moment h ≡ true → is_free w h ≡ true
may_free w moment h may = (and_parts (is_free w h) (is_due h.entry.control moment (lane_of w h.entry.control.group).wait) may).0

-- it is there
pub next_id : (w : Waiting) (list : Option (List ℕ)) (moment : ℕ) (entries : List Held) (id : ℕ) → IsNext w list moment entries (Some id) → HasId entries id
next_id w None moment entries id next = record { held = next.held; among = next.among; is = next.is }
next_id w (Some ids) moment entries id next = record { held = next.held; among = next.among; is = next.is }

-- nobody holds the next one
pub next_out : (w : Waiting) (list : Option (List ℕ)) (moment : ℕ) (entries : List Held) (id : ℕ) → IsNext w list moment entries (Some id) → is_held w.holders id ≡ false
next_out w None moment entries id next = subst (λ n. is_held w.holders n ≡ false) next.is (free_out w next.held (may_free w moment next.held next.may))
next_out w (Some ids) moment entries id next = subst (λ n. is_held w.holders n ≡ false) next.is (free_out w next.held next.free)

module _ (site : Site) (m : State) (kept : Kept) (crew : Crew) (is : IsCrew site crew m) (holds : HoldsTable kept m.table) where
  abbrev seen : Waiting
  seen = waiting_of site m.seats

  -- the least of those that are due
  least_first : (id : ℕ) (stored : Stored) → Contains m.table.entries stored → (least : IsLeast crew.waiting m.latest (store kept).entries id) → IsHeld least.held stored → IsLeastDue seen m.latest (map entered m.table.entries) (Some id)
  least_first id stored inside least same = record {
    held = entered stored;
    among = contains_map entered stored m.table.entries inside;
    is = sym same.id ∙ least.is;
    may = sym (may_stored seen m.latest least.held stored same) ∙ sym (may_same site crew.waiting m.seats is.waiting m.latest least.held) ∙ least.may;
    least = All-map (λ (h : Held). may_claim seen m.latest h ≡ true → IsBefore h.entry (entered stored).entry → ⊥) entered m.table.entries
        (zip_all (λ (h : Held). may_claim crew.waiting m.latest h ≡ true → IsBefore h.entry least.held.entry → ⊥) (λ (s : Stored). may_claim seen m.latest (entered s) ≡ true → IsBefore (entered s).entry (entered stored).entry → ⊥)
        (store kept).entries m.table.entries holds.entries
        (λ h s held nay may before. nay (may_same site crew.waiting m.seats is.waiting m.latest h ∙ may_stored seen m.latest h s held ∙ may)
        (subst (λ (e : Entry). IsBefore e least.held.entry) (sym (same_entry h s held)) (subst (λ (e : Entry). IsBefore (entered s).entry e) (sym (same_entry least.held stored same)) before)))
        least.least);
  }

  free_stored : (h : Held) (s : Stored) → IsHeld h s → is_free crew.waiting h ≡ is_free seen (entered s)
  free_stored h s held = free_same site crew.waiting m.seats is.waiting h.entry ∙ ap (λ (e : Entry). not (is_held seen.holders e.id) && has_room seen.holders (lane_of seen e.control.group)) (same_entry h s held)

  -- ids of a list whose entries may not be claimed
  busy_passed : (group : Option (List ℕ)) (id : ℕ) → IsBusy crew.waiting (store kept).entries id → All (λ (s : Stored). s.id ≡ id → can_claim_by site m (Once group) s ≡ false) m.table.entries
  busy_passed group id busy =
      zip_all (λ (h : Held). h.entry.id ≡ id → is_free crew.waiting h ≡ false) (λ (s : Stored). s.id ≡ id → can_claim_by site m (Once group) s ≡ false) (store kept).entries m.table.entries holds.entries
      (λ h s held nay at. ap (λ b. b && is_among m.list s.id) (sym (free_stored h s held) ∙ nay (held.id ∙ at))) busy

  -- an id in the middle of a list is among it
  among_middle : (front later : List ℕ) (id : ℕ) → is_among (front ++ id ∷ later) id ≡ true
  among_middle [] later id = ap (λ b. b || is_among later id) (eq-eqb id id refl)
  among_middle (n ∷ front) later id = ap (λ b. nat_eq id n || b) (among_middle front later id) ∙ or_true (nat_eq id n)
    where
      or_true : (b : Bool) → (b || true) ≡ true
      or_true true = refl
      or_true false = refl

  chosen_by : (plan : Plan) (list : Option (List ℕ)) (id : ℕ) → site.plan ≡ plan → crew.list ≡ list → IsListOf plan list m.list → AreAscending (store kept).entries → IsNext crew.waiting list m.latest (store kept).entries (Some id) → IsChosen site m kept crew id
  chosen_by (Serve wait) None id plan list of up next =
      let f = one_found kept m.table next.held id up holds next.among next.is in record {
        held = next.held;
        among = next.among;
        is = next.is;
        stored = f.0;
        found = f.1.0;
        same = f.1.1.0;
        can = ap (λ p. can_claim_by site m p f.0) plan ∙ (sym (may_stored seen m.latest next.held f.0 f.1.1.0) ∙ sym (may_same site crew.waiting m.seats is.waiting m.latest next.held) ∙ next.may);
        first = subst (λ p. IsFirst site m p id) (sym plan) (least_first id f.0 f.1.1.1 next f.1.1.0);
      }
  chosen_by (Serve wait) (Some ids) id plan list of up next = cc of
  chosen_by (Once group) None id plan list of up next = cc of
  chosen_by (Once group) (Some ids) id plan list of up next =
      let f = one_found kept m.table next.held id up holds next.among next.is in
      let all : ids ≡ m.list = cc of in
      let whole : m.list ≡ next.front ++ id ∷ next.later = sym all ∙ next.list in
      let among : is_among m.list f.0.id ≡ true = ap (λ l. is_among l f.0.id) whole ∙ ap (λ n. is_among (next.front ++ id ∷ next.later) n) (sym f.1.1.0.id ∙ next.is) ∙ among_middle next.front next.later id in record {
        held = next.held;
        among = next.among;
        is = next.is;
        stored = f.0;
        found = f.1.0;
        same = f.1.1.0;
        can = ap (λ p. can_claim_by site m p f.0) plan ∙ ap (λ b. b && is_among m.list f.0.id) (sym (free_stored next.held f.0 f.1.1.0) ∙ next.free) ∙ among;
        first = subst (λ p. IsFirst site m p id) (sym plan) (record {
          front = next.front;
          later = next.later;
          list = whole;
          passed = All-weaker (IsBusy crew.waiting (store kept).entries) (IsPassed site m) (λ n busy. subst (λ p. All (λ (s : Stored). s.id ≡ n → can_claim_by site m p s ≡ false) m.table.entries) (sym plan) (busy_passed group n busy)) next.front next.passed;
        });
      }

  pub chosen : (id : ℕ) → AreAscending (store kept).entries → IsNext crew.waiting crew.list m.latest (store kept).entries (Some id) → IsChosen site m kept crew id
  chosen id up next = chosen_by site.plan crew.list id refl refl is.list up next

  -- of an id on a list none may be claimed, so no entry of it
  busy_all : (group : Option (List ℕ)) (ids : List ℕ) → All (IsBusy crew.waiting (store kept).entries) ids → (s : Stored) → Contains m.table.entries s → is_among ids s.id ≡ true → can_claim_by site m (Once group) s ≡ false
  busy_all group [] busy s inside among = absurd (true≢false (sym among))
  busy_all group (n ∷ ids) busy s inside among = by (nat_eq s.id n) refl among (busy_all group ids (All-tail (IsBusy crew.waiting (store kept).entries) n ids busy) s inside)
    where
      by : (b : Bool) → nat_eq s.id n ≡ b → (b || is_among ids s.id) ≡ true → (is_among ids s.id ≡ true → can_claim_by site m (Once group) s ≡ false) → can_claim_by site m (Once group) s ≡ false
      by true e among rest =
          All-contains (λ (q : Stored). q.id ≡ n → can_claim_by site m (Once group) q ≡ false) m.table.entries s
          (busy_passed group n (All-head (IsBusy crew.waiting (store kept).entries) n ids busy)) inside (eqb-true s.id n e)
      by false e among rest = rest among

  each_busy : (group : Option (List ℕ)) (ids : List ℕ) (b : Bool) (s : Stored) → m.list ≡ ids → All (IsBusy crew.waiting (store kept).entries) ids → Contains m.table.entries s → is_among ids s.id ≡ b → can_claim_by site m (Once group) s ≡ false
  each_busy group ids true s all busy inside among = busy_all group ids busy s inside among
  each_busy group ids false s all busy inside among = ap (λ q. is_free seen (entered s) && q) (ap (λ l. is_among l s.id) all ∙ among) ∙ and_false (is_free seen (entered s))
    where
      and_false : (b : Bool) → (b && false) ≡ false
      and_false true = refl
      and_false false = refl

  none_by : (plan : Plan) (list : Option (List ℕ)) → IsListOf plan list m.list → IsNext crew.waiting list m.latest (store kept).entries None → All (λ (s : Stored). can_claim_by site m plan s ≡ false) m.table.entries
  none_by (Serve wait) None of next = none_due site crew.waiting m.seats m.latest (store kept).entries m.table.entries is.waiting holds.entries next
  none_by (Serve wait) (Some ids) of next = cc of
  none_by (Once group) None of next = cc of
  none_by (Once group) (Some ids) of next =
      let all : m.list ≡ ids = cc of in
      All-weaker (Contains m.table.entries) (λ (s : Stored). can_claim_by site m (Once group) s ≡ false) (λ s inside. each_busy group ids (is_among ids s.id) s all next inside refl) m.table.entries
      (All-contains_itself m.table.entries)

  -- where there is no next one, no entry may be claimed
  pub none_next : IsNext crew.waiting crew.list m.latest (store kept).entries None → IsNoneClaimable site m
  none_next next = none_by site.plan crew.list is.list next
