-- Entries in order of id: a search among them, and what a change does.
use Rattle.std.proofs.Common.{◌≡◌, ◌≢◌, ⊎_elim, Less, ℕ, suc, ◌+◌, ◌-◌, ◌<◌, ◌≤◌, List, [], ◌∷◌, ◌++◌, map, length, get_or, set, Bool, true, if◌then◌else◌, Result, Ok, Err, IfOk, IfErr, refl, sym, ◌∙◌, ap, subst, arith, eq-eqb, ne_eqb, Contains}
use Rattle.std.specs.Prelude.{All, AllPairs}
use Rattle.std.specs.Cmp.{nat_cmp_is}
use Rattle.std.specs.List.{AllByRecursion}
use Rattle.std.specs.List.Sorted.{IsSearchInRange, IsBinarySearchResult, IsNonDecreasingBy, IsStrictlySortedBy}
use Rattle.std.specs.Ordering.{nat_cmp, ordering_index}
use Rattle.std.proofs.lemmas.Bool.{cases_eq, cases_lt}
use Rattle.std.proofs.lemmas.Bool.Decides.{nat_tests}
use Rattle.std.proofs.lemmas.Cmp.{ranked}
use Rattle.std.proofs.lemmas.List.{length_push, length-set, length-map, get_or_append_left, get_or_push, get_or-map, get_or_default, get_or-set_same, get_or-set_other, ext_get_or}
use Rattle.std.proofs.lemmas.List.Elements.{All-head, All-map, All-push, All-tail, All-weaker}
use Rattle.mail_base.specs.Names.{name_of, digits}
use Rattle.mail_base.specs.declared.id.Kind.{Kind}
use Rattle.mail_base.specs.declared.id.Kind.TheVariants.{Df, Qf, Tf, Sf}
use Rattle.mail_base.specs.declared.control.Control.{Control}
use Rattle.spool_store.specs.declared.held.Held.{Held}
use Rattle.spool_store.specs.Openings.{IsFitting}
use Rattle.spool_store.specs.Stores.{recontrolled, refinished}
use Rattle.spool_store.specs.inner.Shelves.{IsAscending, IsPlaceOf}

-- a name has 15 bytes
pub name_long : (kind : Kind) (n : ℕ) → length (name_of kind n) ≡ 15
unfolding digits
name_long Df n = refl
name_long Qf n = refl
name_long Tf n = refl
name_long Sf n = refl

-- the comparisons with an id rise
index_rises : (a b x : ℕ) → a ≤ b → ordering_index (nat_cmp a x) ≤ ordering_index (nat_cmp b x)
index_rises a b x le = grind (arith, nat_tests)

comparisons_rise : (items : List Held) (id : ℕ) → IsAscending items → IsNonDecreasingBy (λ h. ordering_index (nat_cmp h.entry.id id)) items
comparisons_rise items id up i j d le within = index_rises (get_or items i d).entry.id (get_or items j d).entry.id id
    (⊎_elim (λ (l : i < j). let less = up i j d l within in omega (arith, less)) (λ (g : j ≤ i). let e : i ≡ j = omega (arith, le, g) in let same = ap (λ (k : ℕ). (get_or items k d).entry.id) e in omega (arith, same)) (cases_lt i j))

-- a search that finds an id gives the place of its entry
pub found_at : (items : List Held) (id : ℕ) (r : Result ℕ ℕ) → IsSearchInRange r (length items) → IsBinarySearchResult (λ h. nat_cmp h.entry.id id) items r → IfOk r (IsPlaceOf items id)
found_at items id (Ok at) bound equal = record { within = bound; has = λ d. ranked (get_or items at d).entry.id id _ (sym (equal d)) }
found_at items id (Err at) bound parted = tt

-- a search that fails shows that no entry has the id
pub absent_at : (items : List Held) (id : ℕ) (r : Result ℕ ℕ) → IsAscending items → IsSearchInRange r (length items) → IsBinarySearchResult (λ h. nat_cmp h.entry.id id) items r → IfErr r (λ x. All (λ h. h.entry.id ≢ id) items)
absent_at items id (Ok at) up bound equal = tt
absent_at items id (Err at) up bound parted = λ k d lt e.
    let p = parted (comparisons_rise items id up) in
    ⊎_elim
    (λ (l : k < at). let less = ranked (get_or items k d).entry.id id _ (sym (p.0 k d (omega arith) l)) in omega (arith, less, e))
    (λ (g : at ≤ k). let more = ranked (get_or items k d).entry.id id _ (sym (p.1 k d g lt)) in omega (arith, more, e))
    (cases_lt k at)

-- one entry has an id
pub one_held : (items : List Held) (id place : ℕ) (h : Held) → IsAscending items → IsPlaceOf items id place → Contains items h → h.entry.id ≡ id → (d : Held) → get_or items place d ≡ h
one_held items id place h up at k is d =
    let here : get_or items k.0 h ≡ h = k.2 in
    let same : get_or items place d ≡ get_or items place h = get_or_default items place d h at.within in
    let has : (get_or items place h).entry.id ≡ id = at.has h in
    let its : (get_or items k.0 h).entry.id ≡ id = ap (λ (q : Held). q.entry.id) here ∙ is in
    ⊎_elim
    (λ (e : place ≡ k.0). same ∙ ap (λ (n : ℕ). get_or items n h) e ∙ here)
    (λ (ne : place ≢ k.0). absurd (⊎_elim
    (λ (l : place < k.0). let less = up place k.0 h l k.1 in omega (arith, less, has, its))
    (λ (g : k.0 ≤ place). let less = up k.0 place h (omega (arith, g, ne)) at.within in omega (arith, less, has, its))
    (cases_lt place k.0)))
    (cases_eq place k.0)

-- one more at the end
pub room_left : (items new : List Held) (x : Held) (room cap after : ℕ) → new ≡ items ++ x ∷ [] → after ≡ cap → length items + room ≤ cap → 0 < room → length new + (room - 1) ≤ after
room_left items new x room cap after e same fits some = let n : length new ≡ length items + 1 = ap length e ∙ length_push items x in omega (arith, n, same, fits, some)

push_ascends : (items : List Held) (x : Held) → IsAscending items → All (λ h. h.entry.id < x.entry.id) items → IsAscending (items ++ x ∷ [])
push_ascends items x up below i j d lt within =
    let n : length (items ++ x ∷ []) ≡ length items + 1 = length_push items x in
    ⊎_elim
    (λ (l : j < length items).
    let less = up i j d lt l in
    let one = ap (λ (q : Held). q.entry.id) (get_or_append_left items (x ∷ []) d i (omega (arith, lt, l))) in
    let other = ap (λ (q : Held). q.entry.id) (get_or_append_left items (x ∷ []) d j l) in
    omega (arith, less, one, other))
    (λ (g : length items ≤ j).
    let less = below i d (omega (arith, lt, within, n)) in
    let one = ap (λ (q : Held). q.entry.id) (get_or_append_left items (x ∷ []) d i (omega (arith, lt, within, n))) in
    let other = ap (λ (q : Held). q.entry.id) (get_or_push items x d j (omega (arith, g, within, n))) in
    omega (arith, less, one, other))
    (cases_lt j (length items))

-- an entry of a greater id behind the others leaves them in order of id
pub added_ascends : (items new : List Held) (x : Held) → new ≡ items ++ x ∷ [] → IsAscending items → All (λ h. h.entry.id < x.entry.id) items → IsAscending new
added_ascends items new x e up below = subst IsAscending (sym e) (push_ascends items x up below)

-- where an entry of the id n is added to entries below it, all are below n + 1
pub added_below : (items new : List Held) (x : Held) (n : ℕ) → new ≡ items ++ x ∷ [] → x.entry.id ≡ n → All (λ (h : Held). h.entry.id < n) items → All (λ (h : Held). h.entry.id < n + 1) new
added_below items new x n e at below = subst (λ (q : List Held). All (λ (h : Held). h.entry.id < n + 1) q) (sym e)
    (All-push (λ (h : Held). h.entry.id < n + 1) items x (All-weaker (λ (h : Held). h.entry.id < n) (λ (h : Held). h.entry.id < n + 1) (λ h lt. omega (arith, lt)) items below) (omega (arith, at)))

-- one is changed where it has that id
changed : (items : List Held) (id place : ℕ) (h x : Held) (change : Held → Held) → IsAscending items → IsPlaceOf items id place → h ≡ get_or items place h → ((q : Held) → q.entry.id ≢ id → change q ≡ q) → change h ≡ x → set items place x ≡ map change items
changed items id place h x change up at is others here = ext_get_or h (set items place x) (map change items) (length-set items place x ∙ sym (length-map items change)) (λ i lt.
    let within : i < length items = omega (arith, lt, length-set items place x) in
    let mapped : get_or (map change items) i h ≡ change (get_or items i h) = get_or-map change items i h h within in
    ⊎_elim
    (λ (e : i ≡ place). ap (λ (k : ℕ). get_or (set items place x) k h) e ∙ get_or-set_same items place x h at.within ∙ sym here ∙ ap change (is ∙ ap (λ (k : ℕ). get_or items k h) (sym e)) ∙ sym mapped)
    (λ (ne : i ≢ place).
    let apart : (get_or items i h).entry.id ≢ id = λ e. let has = at.has h in ⊎_elim
    (λ (l : i < place). let less = up i place h l at.within in omega (arith, less, has, e))
    (λ (g : place ≤ i). let less = up place i h (omega (arith, g, ne)) within in omega (arith, less, has, e))
    (cases_lt i place)
    in
    get_or-set_other items place i x h ne ∙ sym (others (get_or items i h) apart) ∙ sym mapped)
    (cases_eq i place))

-- a control set at the place of an id is set for that id
pub recontrolled_at : (items : List Held) (id place : ℕ) (h : Held) (c : Control) → IsAscending items → IsPlaceOf items id place → h ≡ get_or items place h → set items place (record h { entry = record h.entry { control = c } }) ≡ map (recontrolled id c) items
recontrolled_at items id place h c up at is = changed items id place h (record h { entry = record h.entry { control = c } }) (recontrolled id c) up at is
    (λ q ne. ap (λ (b : Bool). if b then record q { entry = record q.entry { control = c } } else q) (ne_eqb q.entry.id id ne))
    (ap (λ (b : Bool). if b then record h { entry = record h.entry { control = c } } else h) (eq-eqb h.entry.id id (ap (λ (q : Held). q.entry.id) is ∙ at.has h)))

-- a mark of finishing set at the place of an id is set for that id
pub refinished_at : (items : List Held) (id place : ℕ) (h : Held) → IsAscending items → IsPlaceOf items id place → h ≡ get_or items place h → set items place (record h { finished = true }) ≡ map (refinished id) items
refinished_at items id place h up at is = changed items id place h (record h { finished = true }) (refinished id) up at is
    (λ q ne. ap (λ (b : Bool). if b then record q { finished = true } else q) (ne_eqb q.entry.id id ne))
    (ap (λ (b : Bool). if b then record h { finished = true } else h) (eq-eqb h.entry.id id (ap (λ (q : Held). q.entry.id) is ∙ at.has h)))

-- a change of entries that leaves their ids
same_ascends : (change : Held → Held) (items : List Held) → ((h : Held) → (change h).entry.id ≡ h.entry.id) → IsAscending items → IsAscending (map change items)
same_ascends change items same up i j d lt within =
    let long = length-map items change in
    let less = up i j d lt (omega (arith, within, long)) in
    let one = ap (λ (q : Held). q.entry.id) (get_or-map change items i d d (omega (arith, lt, within, long))) in
    let other = ap (λ (q : Held). q.entry.id) (get_or-map change items j d d (omega (arith, within, long))) in
    let first = same (get_or items i d) in
    let second = same (get_or items j d) in
    omega (arith, less, one, other, first, second)

-- a shelf keeps its order, its bound, its room and what fits where a change leaves each entry's id as it is
pub same_kept : (change : Held → Held) (dirs : List (List ℕ)) (items new : List Held) (n room cap : ℕ) → ((h : Held) → (change h).entry.id ≡ h.entry.id) → ((h : Held) → IsFitting dirs h.entry → IsFitting dirs (change h).entry) → new ≡ map change items → length items + room ≤ cap → IsAscending items → All (λ (h : Held). h.entry.id < n) items → All (λ (h : Held). IsFitting dirs h.entry) items
    → (length new + room ≤ cap) × (IsAscending new × (All (λ (h : Held). h.entry.id < n) new × All (λ (h : Held). IsFitting dirs h.entry) new))
same_kept change dirs items new n room cap same fitting e fits up below fit =
    let long = length-map items change in
    subst (λ (q : List Held). (length q + room ≤ cap) × (IsAscending q × (All (λ (h : Held). h.entry.id < n) q × All (λ (h : Held). IsFitting dirs h.entry) q))) (sym e) (
      omega (arith, fits, long),
      (
        same_ascends change items same up,
        (
          All-map (λ (h : Held). h.entry.id < n) change items (All-weaker (λ (h : Held). h.entry.id < n) (λ (h : Held). (change h).entry.id < n) (λ h lt. let k = same h in omega (arith, lt, k)) items below),
          All-map (λ (h : Held). IsFitting dirs h.entry) change items (All-weaker (λ (h : Held). IsFitting dirs h.entry) (λ (h : Held). IsFitting dirs (change h).entry) fitting items fit),
        ),
      ),
    )

-- a replaced control leaves each entry's id as it is
pub recontrolled_id : (id : ℕ) (c : Control) (h : Held) → (recontrolled id c h).entry.id ≡ h.entry.id
recontrolled_id id c h = ⊎_elim
    (λ (e : h.entry.id ≡ id). ap (λ (b : Bool). (if b then record h { entry = record h.entry { control = c } } else h).entry.id) (eq-eqb h.entry.id id e))
    (λ (ne : h.entry.id ≢ id). ap (λ (b : Bool). (if b then record h { entry = record h.entry { control = c } } else h).entry.id) (ne_eqb h.entry.id id ne))
    (cases_eq h.entry.id id)

-- a finish leaves each entry's id as it is
pub refinished_id : (id : ℕ) (h : Held) → (refinished id h).entry.id ≡ h.entry.id
refinished_id id h = ⊎_elim
    (λ (e : h.entry.id ≡ id). ap (λ (b : Bool). (if b then record h { finished = true } else h).entry.id) (eq-eqb h.entry.id id e))
    (λ (ne : h.entry.id ≢ id). ap (λ (b : Bool). (if b then record h { finished = true } else h).entry.id) (ne_eqb h.entry.id id ne))
    (cases_eq h.entry.id id)

-- what is shown at the place of an id is its entry
pub held_is : (items shown : List Held) (id place : ℕ) (d h : Held) → shown ≡ items → IsAscending items → IsPlaceOf items id place → Contains items h → h.entry.id ≡ id → get_or shown place d ≡ h
held_is items shown id place d h same up at k has = ap (λ (q : List Held). get_or q place d) same ∙ one_held items id place h up at k has d

-- entries in order of id have one entry of each id
pub only_held : (items : List Held) (id : ℕ) (one : Held) → IsAscending items → Contains items one → one.entry.id ≡ id → (h : Held) → Contains items h → h.entry.id ≡ id → h ≡ one
only_held items id one up k is h m has =
    let at : IsPlaceOf items id m.0 = record { within = m.1; has = λ d. ap (λ (q : Held). q.entry.id) (get_or_default items m.0 d h m.1 ∙ m.2) ∙ has } in
    sym m.2 ∙ one_held items id m.0 one up at k is h

-- numbers that ascend are in strict order
less_sorted : {X : Type 0} (f : X → ℕ) (n : ℕ) (xs : List X) → All (λ x. n < f x) xs → AllByRecursion (λ m. nat_cmp n m ≡ Less) (map f xs)
less_sorted f n [] h = tt
less_sorted f n (x ∷ xs) h = (sym (nat_cmp_is n (f x) Less (All-head (λ y. n < f y) x xs h)), less_sorted f n xs (All-tail (λ y. n < f y) x xs h))

pub ascends_sorted : {X : Type 0} (f : X → ℕ) (xs : List X) → AllPairs (λ x y. f x < f y) xs → IsStrictlySortedBy nat_cmp (map f xs)
unfolding IsStrictlySortedBy
ascends_sorted f [] up = tt
ascends_sorted f (x ∷ xs) up = (less_sorted f (f x) xs (λ k d lt. up 0 (suc k) d (omega arith) (omega (arith, lt))), ascends_sorted f xs (λ i j d lt within. up (suc i) (suc j) d (omega (arith, lt)) (omega (arith, within))))
