-- The entries that were sorted are those of the list that is fixed.
use Rattle.std.proofs.Common.{◌≡◌, ◌≢◌, ◌⊎◌, ⊎_elim, ℕ, suc, ◌<◌, List, [], ◌∷◌, ◌++◌, map, filter, Bool, true, false, cond, not, ◌&&◌, true≢false, Option, Result, if◌then◌else◌, get_or, refl, sym, ◌∙◌, ap, subst, arith, eq-eqb, ne_eqb}
use Rattle.std.specs.Prelude.{All, Contains, IfOk, eqb}
use Rattle.std.specs.List.{AllPairs, AllZip, IsDistinct}
use Rattle.std.specs.List.Sorted.{IsPermutation, IsStrictlySortedBy}
use Rattle.std.specs.Ordering.{nat_cmp}
use Rattle.std.proofs.lemmas.Bool.{eqb-false, eqb-true}
use Rattle.std.proofs.lemmas.List.{get_or-map, get_or_append_left, length-append, length-map}
use Rattle.std.proofs.lemmas.List.Elements.{All-cons, All-contains_itself, All-filter, All-head, All-map, All-nil, All-tail, Contains-get_or, filter_passes}
use Rattle.std.proofs.lemmas.List.Sorted.{All-permutation, Contains-permutation, IsPermutation-filter_both, IsPermutation-map}
use Rattle.std.proofs.lemmas.Map.Keys.{IsDistinct-IsPermutation, IsDistinct-from_apart, IsDistinct-tail, apart_from_distinct, below_from_sorted, sorted_tail}
use Rattle.std.proofs.lemmas.Result.{IfOk-weaker}
use Rattle.mail_base.specs.declared.config.Config.{Config}
use Rattle.mail_base.specs.declared.control.Entry.{Entry}
use Rattle.spool_store.specs.Entries.{Stored, Table, ids}
use Rattle.spool_store.specs.Stores.{IsHeld, entered}
use Rattle.spool_store.specs.declared.held.Held.{Held}
use Rattle.spool_store.proofs.Standing.{contains_cases, contains_head, contains_tail}
use Rattle.queue_table.specs.Order.{IsBefore, is_due}
use Rattle.mail_core.specs.Listed.{AreInOrder, IsFixed, is_of, is_wanted as is_meant}
use Rattle.mail_core.specs.Plans.{Once}
use Rattle.mail_core.specs.Sites.{Site}
use Rattle.mail_core.specs.inner.Fixing.{GoesOn, is_wanted, picked}
use Rattle.mail_core.proofs.PickingLemmas.{lane_named, lane_waits, none_counted, picked_are, stored_by}

-- ---- bodies

-- the body of an id
abbrev pub body_in : List Stored → ℕ → List ℕ
body_in [] id = []
body_in (s ∷ ss) id = if eqb s.id id then s.body else body_in ss id

first_below : (s : Stored) (ss : List Stored) → IsStrictlySortedBy nat_cmp (ids (s ∷ ss)) → All (λ (t : Stored). s.id < t.id) ss
first_below s ss up k d lt =
    let below : s.id < get_or (ids ss) k 0 = below_from_sorted (ids (s ∷ ss)) 0 (suc k) 0 up (omega arith) (omega (arith, lt, length-map (s ∷ ss) (λ (t : Stored). t.id))) in
    subst (λ n. s.id < n) (get_or-map (λ (t : Stored). t.id) ss k d 0 lt) below

-- each entry has the body of its id
own_bodies : (ss : List Stored) → IsStrictlySortedBy nat_cmp (ids ss) → All (λ (s : Stored). body_in ss s.id ≡ s.body) ss
own_bodies [] up = All-nil (λ (s : Stored). body_in [] s.id ≡ s.body)
own_bodies (s ∷ ss) up =
    let below = first_below s ss up in
    let rest = own_bodies ss (sorted_tail nat_cmp s.id (ids ss) up) in
    All-cons (λ (t : Stored). body_in (s ∷ ss) t.id ≡ t.body) s ss
    (ap (λ (b : Bool). if b then s.body else body_in ss s.id) (eq-eqb s.id s.id refl))
    (λ k d lt.
    let t = get_or ss k d in
    let less : s.id < t.id = below k d lt in
    ap (λ (b : Bool). if b then s.body else body_in ss t.id) (ne_eqb s.id t.id (λ e. omega (arith, less, e))) ∙ rest k d lt)

stored_are : (bodies : ℕ → List ℕ) (hs : List Held) (ss : List Stored) → AllZip IsHeld hs ss → All (λ (s : Stored). bodies s.id ≡ s.body) ss → map (stored_by bodies) hs ≡ ss
stored_are bodies [] [] zip own = refl
stored_are bodies [] (s ∷ ss) zip own = absurd zip
stored_are bodies (h ∷ hs) [] zip own = absurd zip
stored_are bodies (h ∷ hs) (s ∷ ss) zip own =
    let is = zip.0 in
    let body : bodies h.entry.id ≡ s.body = ap bodies is.id ∙ All-head (λ (s : Stored). bodies s.id ≡ s.body) s ss own in
    let rest = stored_are bodies hs ss zip.1 (All-tail (λ (s : Stored). bodies s.id ≡ s.body) s ss own) in
    λ i. record { id = is.id i; dir = is.dir i; control = is.control i; body = body i } ∷ rest i

same_ids : (hs : List Held) (ss : List Stored) → AllZip IsHeld hs ss → map (λ (h : Held). h.entry.id) hs ≡ ids ss
same_ids [] [] zip = refl
same_ids [] (s ∷ ss) zip = absurd zip
same_ids (h ∷ hs) [] zip = absurd zip
same_ids (h ∷ hs) (s ∷ ss) zip = λ i. zip.0.id i ∷ same_ids hs ss zip.1 i

-- ---- ids

abbrev has_same_id : Held → Held → Bool
has_same_id one other = eqb one.entry.id other.entry.id

eqb_flips : (i j : ℕ) → eqb i j ≡ eqb j i
eqb_flips i j = by (eqb j i) refl
  where
    by : (b : Bool) → eqb j i ≡ b → eqb i j ≡ eqb j i
    by true e = eq-eqb i j (sym (eqb-true j i e)) ∙ sym e
    by false e = ne_eqb i j (λ q. eqb-false j i e (sym q)) ∙ sym e

all_apart : (hs : List Held) → IsStrictlySortedBy nat_cmp (map (λ (h : Held). h.entry.id) hs) → IsDistinct has_same_id hs
all_apart hs up = IsDistinct-from_apart has_same_id hs (λ i j d lt le.
    let id = λ (h : Held). h.entry.id in
    let below = below_from_sorted (map id hs) i j d.entry.id up lt (omega (arith, le, length-map hs id)) in
    let first = get_or-map id hs i d d.entry.id (omega (arith, lt, le)) in
    let second = get_or-map id hs j d d.entry.id le in
    ne_eqb (get_or hs i d).entry.id (get_or hs j d).entry.id (λ e. omega (arith, below, first, second, e)))

front_apart : (xs ys : List Held) → IsDistinct has_same_id (xs ++ ys) → IsDistinct has_same_id xs
front_apart xs ys apart = IsDistinct-from_apart has_same_id xs (λ i j d lt le.
    let whole = apart_from_distinct has_same_id (xs ++ ys) i j d apart lt (omega (arith, le, length-append xs ys)) in
    rw (← get_or_append_left xs ys d i (omega (arith, lt, le)), ← get_or_append_left xs ys d j le) whole)

kept_apart : (p : Held → Bool) (hs shown : List Held) → IsStrictlySortedBy nat_cmp (map (λ (h : Held). h.entry.id) hs) → IsPermutation (filter p hs) shown → IsDistinct has_same_id shown
kept_apart p hs shown up same =
    let flips = λ (a b : Held). eqb_flips a.entry.id b.entry.id in
    let both = IsDistinct-IsPermutation has_same_id flips hs (filter p hs ++ filter (λ h. not (p h)) hs) (IsPermutation-filter_both p (λ h. not (p h)) (λ h. refl) hs) (all_apart hs up) in
    IsDistinct-IsPermutation has_same_id flips (filter p hs) shown same (front_apart (filter p hs) (filter (λ h. not (p h)) hs) both)

-- ---- the order

-- of two entries with different ids one goes before the other
abbrev pub IsTotal : Type 0
IsTotal = (a b : Entry) → a.id ≢ b.id → IsBefore a b ⊎ IsBefore b a

in_order : (bodies : ℕ → List ℕ) (hs : List Held) → IsTotal → AllPairs GoesOn hs → IsDistinct has_same_id hs → AreInOrder (map (stored_by bodies) hs)
in_order bodies [] total pairs apart = tt
in_order bodies (h ∷ hs) total pairs apart = (
  All-map (λ (other : Stored). IsBefore h.entry (entered other).entry) (stored_by bodies) hs (λ k d lt.
      let other = get_or hs k d in
      let differ = eqb-false h.entry.id other.entry.id (apart_from_distinct has_same_id (h ∷ hs) 0 (suc k) d apart (omega arith) (omega (arith, lt))) in
      ⊎_elim (λ (b : IsBefore h.entry other.entry). b)
      (λ (b : IsBefore other.entry h.entry). absurd (pairs 0 (suc k) d (omega arith) (omega (arith, lt)) b))
      (total h.entry other.entry differ)),
  in_order bodies hs total (λ i j d lt le. pairs (suc i) (suc j) d (omega (arith, lt)) (omega (arith, le))) (IsDistinct-tail has_same_id h hs apart),
)

-- ---- the list

later_if : (b : Bool) (t s : Stored) (ss : List Stored) → Contains ss s → Contains (cond b (t ∷ ss) ss) s
later_if true t s ss among = contains_tail t s ss among
later_if false t s ss among = among

contains_kept : (p : Stored → Bool) (ss : List Stored) (s : Stored) → Contains ss s → p s ≡ true → Contains (filter p ss) s
contains_kept p [] s among passes = absurd (omega (arith, among.1))
contains_kept p (t ∷ ss) s among passes = ⊎_elim
    (λ (e : t ≡ s).
    let first : Contains (t ∷ filter p ss) s = subst (Contains (t ∷ filter p ss)) e (contains_head t (filter p ss)) in
    subst (λ (b : Bool). Contains (cond b (t ∷ filter p ss) (filter p ss)) s) (sym (ap p e ∙ passes)) first)
    (λ (m : Contains ss s). later_if (p t) t s (filter p ss) (contains_kept p ss s m passes))
    (contains_cases t s ss among)

same_test : (site : Site) (group : Option (List ℕ)) (moment : ℕ) (bodies : ℕ → List ℕ) (h : Held) → site.plan ≡ Once group → is_wanted site.config group moment h ≡ is_meant site group moment (stored_by bodies h)
same_test site group moment bodies h once =
    let s = stored_by bodies h in
    let lane = sym (lane_named site s) in
    let wait = sym (lane_waits site group s once) in
    λ i. is_of group (lane i) && is_due h.entry.control moment (wait i)

kept_by : (bodies : ℕ → List ℕ) (h : Held) (hs : List Held) (ss : List Stored) (b c : Bool) → b ≡ c → map (stored_by bodies) hs ≡ ss → map (stored_by bodies) (cond b (h ∷ hs) hs) ≡ cond c (stored_by bodies h ∷ ss) ss
kept_by bodies h hs ss true true same rest = ap (λ (l : List Stored). stored_by bodies h ∷ l) rest
kept_by bodies h hs ss true false same rest = absurd (true≢false same)
kept_by bodies h hs ss false true same rest = absurd (true≢false (sym same))
kept_by bodies h hs ss false false same rest = rest

wanted_are : (site : Site) (group : Option (List ℕ)) (moment : ℕ) (bodies : ℕ → List ℕ) (hs : List Held) → site.plan ≡ Once group → map (stored_by bodies) (filter (is_wanted site.config group moment) hs) ≡ filter (is_meant site group moment) (map (stored_by bodies) hs)
wanted_are site group moment bodies [] once = refl
wanted_are site group moment bodies (h ∷ hs) once =
    kept_by bodies h (filter (is_wanted site.config group moment) hs) (filter (is_meant site group moment) (map (stored_by bodies) hs))
    (is_wanted site.config group moment h) (is_meant site group moment (stored_by bodies h)) (same_test site group moment bodies h once)
    (wanted_are site group moment bodies hs once)

fixed_at : (site : Site) (group : Option (List ℕ)) (moment : ℕ) (table : Table) (held shown : List Held) (list : List ℕ) → site.plan ≡ Once group → IsTotal
    → IsStrictlySortedBy nat_cmp (map (λ (h : Held). h.entry.id) held) → AllZip IsHeld held table.entries → IsPermutation (filter (is_wanted site.config group moment) held) shown → AllPairs GoesOn shown
    → list ≡ picked site.config.groups [] shown → IsFixed site group moment table list
fixed_at site group moment table held shown list once total up zip moved pairs is =
    let ss = table.entries in
    let bodies = body_in ss in
    let wanted = is_wanted site.config group moment in
    let meant = is_meant site group moment in
    let due = map (stored_by bodies) shown in
    let stored : map (stored_by bodies) held ≡ ss = stored_are bodies held ss zip (own_bodies ss (subst (IsStrictlySortedBy nat_cmp) (same_ids held ss zip) up)) in
    let kept : map (stored_by bodies) (filter wanted held) ≡ filter meant ss = wanted_are site group moment bodies held once ∙ ap (filter meant) stored in
    let same : IsPermutation (filter meant ss) due = subst (λ (l : List Stored). IsPermutation l due) kept (IsPermutation-map (stored_by bodies) (filter wanted held) shown moved) in
    record {
      due = due;
      order = in_order bodies shown total pairs (kept_apart wanted held shown up moved);
      each = All-permutation (Contains ss) (filter meant ss) due same (All-filter meant (Contains ss) ss (All-contains_itself ss));
      wanted = All-permutation (λ (s : Stored). meant s ≡ true) (filter meant ss) due same (filter_passes meant ss);
      all = λ k d lt passes. Contains-permutation (filter meant ss) due (get_or ss k d) same (contains_kept meant ss (get_or ss k d) (Contains-get_or ss k d lt) passes);
      list_is = is ∙ picked_are site bodies shown [] [] (none_counted site);
    }

-- what was picked of the sorted entries is the list
pub is_fixed : {E : Type 0} (site : Site) (config : Config) (group : Option (List ℕ)) (moment : ℕ) (table : Table) (held shown : List Held) (r : Result (List ℕ) E) → site.config ≡ config → site.plan ≡ Once group → IsTotal
    → IsStrictlySortedBy nat_cmp (map (λ (h : Held). h.entry.id) held) → AllZip IsHeld held table.entries → IsPermutation (filter (is_wanted config group moment) held) shown → AllPairs GoesOn shown
    → IfOk r (λ list. list ≡ picked config.groups [] shown) → IfOk r (IsFixed site group moment table)
is_fixed site config group moment table held shown r same once total up zip moved pairs is =
    IfOk-weaker r (λ list. list ≡ picked config.groups [] shown) (IsFixed site group moment table)
    (λ list picks. fixed_at site group moment table held shown list once total up zip
    (subst (λ (k : Config). IsPermutation (filter (is_wanted k group moment) held) shown) (sym same) moved) pairs
    (subst (λ (k : Config). list ≡ picked k.groups [] shown) (sym same) picks))
    is
