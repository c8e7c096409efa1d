-- A search for an id, and the first of a list that may be claimed.
use Rattle.std.proofs.Common.{◌≡◌, ◌≢◌, ⊎_elim, ℕ, ◌+◌, ◌<◌, ◌≤◌, zero, suc, List, [], ◌∷◌, ◌++◌, length, map, take, drop, get_or, Bool, true, false, Result, Ok, Err, refl, sym, ◌∙◌, ap, subst, arith, Less, append_assoc, Contains}
use Rattle.std.specs.Prelude.{All, IfErr, IfOk}
use Rattle.std.specs.List.{AllByRecursion}
use Rattle.std.specs.List.Sorted.{IsBinarySearchResult, IsNonDecreasingBy, IsSearchInRange, IsStrictlySortedBy}
use Rattle.std.specs.Ordering.{nat_cmp, ordering_index}
use Rattle.std.proofs.lemmas.Bool.{cases_lt}
use Rattle.std.proofs.lemmas.Bool.Decides.{nat_tests}
use Rattle.std.proofs.lemmas.Cmp.{ranked}
use Rattle.std.proofs.lemmas.List.{take-append-drop, take_more}
use Rattle.std.proofs.lemmas.List.Elements.{All-cons, All-get_or, All-nil, All-push, All-weaker, Contains-get_or}
use Rattle.spool_store.specs.declared.held.Held.{Held}
use Rattle.queue_table.specs.Claims.{is_free}
use Rattle.queue_table.specs.declared.waiting.Waiting.{Waiting}
use Rattle.queue_run.proofs.ReadyLemmas.{one_held}
use Rattle.mail_core.specs.inner.Nexts.{AreAscending, IsBusy, IsFirstOf, IsPlaceOf, MayBegin}

-- ---- entries in order of id

above_all : (n : ℕ) (xs : List Held) → AllByRecursion (λ y. nat_cmp n y ≡ Less) (map (λ (h : Held). h.entry.id) xs) → All (λ (h : Held). n < h.entry.id) xs
above_all n [] h = All-nil (λ (h : Held). n < h.entry.id)
above_all n (x ∷ xs) h = All-cons (λ (h : Held). n < h.entry.id) x xs (ranked n x.entry.id Less (sym h.0)) (above_all n xs h.1)

rises : (xs : List Held) (i j : ℕ) (d : Held) → AreAscending xs → i < j → j < length xs → (get_or xs i d).entry.id < (get_or xs j d).entry.id
unfolding IsStrictlySortedBy
rises [] i j d up lt within = absurd (omega (arith, within))
rises (x ∷ xs) i zero d up lt within = absurd (omega (arith, lt))
rises (x ∷ xs) zero (suc j) d up lt within = All-get_or (λ (h : Held). x.entry.id < h.entry.id) xs j d (omega (arith, within)) (above_all x.entry.id xs up.0)
rises (x ∷ xs) (suc i) (suc j) d up lt within = rises xs i j d up.1 (omega (arith, lt)) (omega (arith, within))

index_rises : (a b x : ℕ) → a ≤ b → ordering_index (nat_cmp a x) ≤ ordering_index (nat_cmp b x)
index_rises a b x le = grind (arith, nat_tests)

comparisons_rise : (xs : List Held) (id : ℕ) → AreAscending xs → IsNonDecreasingBy (λ (h : Held). ordering_index (nat_cmp h.entry.id id)) xs
comparisons_rise xs id up i j d le within = index_rises (get_or xs i d).entry.id (get_or xs j d).entry.id id
    (⊎_elim (λ (l : i < j). let less = rises xs i j d up l within in omega (arith, less)) (λ (g : j ≤ i). let e : i ≡ j = omega (arith, le, g) in let same = ap (λ (k : ℕ). (get_or xs k d).entry.id) e in omega (arith, same)) (cases_lt i j))

pub found_at : (xs : List Held) (id : ℕ) (r : Result ℕ ℕ) → IsSearchInRange r (length xs) → IsBinarySearchResult (λ (h : Held). nat_cmp h.entry.id id) xs r → IfOk r (IsPlaceOf xs id)
found_at xs id (Ok at) bound equal = record { within = bound; has = λ d. ranked (get_or xs at d).entry.id id _ (sym (equal d)) }
found_at xs id (Err at) bound parted = tt

pub absent_at : (xs : List Held) (id : ℕ) (r : Result ℕ ℕ) → AreAscending xs → IsSearchInRange r (length xs) → IsBinarySearchResult (λ (h : Held). nat_cmp h.entry.id id) xs r → IfErr r (λ x. All (λ (h : Held). h.entry.id ≢ id) xs)
absent_at xs id (Ok at) up bound equal = tt
absent_at xs id (Err at) up bound parted = λ k d lt e.
    let p = parted (comparisons_rise xs id up) in
    ⊎_elim
    (λ (l : k < at). let less = ranked (get_or xs k d).entry.id id _ (sym (p.0 k d (omega arith) l)) in omega (arith, less, e))
    (λ (g : at ≤ k). let more = ranked (get_or xs k d).entry.id id _ (sym (p.1 k d g lt)) in omega (arith, more, e))
    (cases_lt k at)

-- ---- whether it may be claimed

-- one that is there
pub begins_there : (w : Waiting) (entries : List Held) (id place : ℕ) (h : Held) (b : Bool) → AreAscending entries → IsPlaceOf entries id place → ((d : Held) → h ≡ get_or entries place d) → b ≡ is_free w h → MayBegin w entries id b
begins_there w entries id place h true up at is free = record {
  held = h;
  among = subst (Contains entries) (sym (is h)) (Contains-get_or entries place h at.within);
  is = ap (λ (q : Held). q.entry.id) (is h) ∙ at.has h;
  free = sym free;
}
begins_there w entries id place h false up at is free =
    let among : Contains entries h = subst (Contains entries) (sym (is h)) (Contains-get_or entries place h at.within) in
    let own : h.entry.id ≡ id = ap (λ (q : Held). q.entry.id) (is h) ∙ at.has h in
    λ k d within its. ap (is_free w) (sym (one_held entries h (get_or entries k d) up among (Contains-get_or entries k d within) (own ∙ sym its))) ∙ sym free

-- one that isn't
pub begins_nowhere : (w : Waiting) (entries : List Held) (id : ℕ) → All (λ (h : Held). h.entry.id ≢ id) entries → MayBegin w entries id false
begins_nowhere w entries id none = All-weaker (λ (h : Held). h.entry.id ≢ id) (λ (h : Held). h.entry.id ≡ id → is_free w h ≡ false) (λ h ne is. absurd (ne is)) entries none

-- ---- along a list

pub passed_more : (w : Waiting) (entries : List Held) (ids : List ℕ) (i id : ℕ) → i < length ids → ((d : ℕ) → id ≡ get_or ids i d) → All (IsBusy w entries) (take i ids) → MayBegin w entries id false → All (IsBusy w entries) (take (i + 1) ids)
passed_more w entries ids i id within is passed busy =
    subst (All (IsBusy w entries)) (sym (take_more ids i id within))
    (All-push (IsBusy w entries) (take i ids) (get_or ids i id) passed (subst (IsBusy w entries) (is id) busy))

pub first_at : (w : Waiting) (entries : List Held) (ids : List ℕ) (i id : ℕ) → i < length ids → ((d : ℕ) → id ≡ get_or ids i d) → All (IsBusy w entries) (take i ids) → MayBegin w entries id true → IsFirstOf w entries ids id
first_at w entries ids i id within is passed free = record {
  front = take i ids;
  later = drop (i + 1) ids;
  list = sym (take-append-drop (i + 1) ids) ∙ ap (λ q. q ++ drop (i + 1) ids) (take_more ids i id within ∙ ap (λ n. take i ids ++ n ∷ []) (sym (is id))) ∙ append_assoc (take i ids) (id ∷ []) (drop (i + 1) ids);
  passed = passed;
  held = free.held;
  among = free.among;
  is = free.is;
  free = free.free;
}

take_all : (i : ℕ) (xs : List ℕ) → length xs ≤ i → take i xs ≡ xs
take_all zero [] le = refl
take_all zero (x ∷ xs) le = absurd (omega (arith, le))
take_all (suc i) [] le = refl
take_all (suc i) (x ∷ xs) le = ap (λ q. x ∷ q) (take_all i xs (omega (arith, le)))

pub passed_all : (w : Waiting) (entries : List Held) (ids : List ℕ) (i : ℕ) → length ids ≤ i → All (IsBusy w entries) (take i ids) → All (IsBusy w entries) ids
passed_all w entries ids i far passed = subst (All (IsBusy w entries)) (take_all i ids far) passed
