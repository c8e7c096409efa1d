-- Rulesets that a line names, and their places.
use Rattle.std.proofs.Common.{◌≡◌, ◌∙◌, ℕ, zero, suc, ◌+◌, ◌<◌, ◌≤◌, Bool, true, false, not, cond, ltb, ◌||◌, List, [], ◌∷◌, ◌++◌, length, drop, get_or, set, Some, None, refl, sym, ap, subst, arith}
use Rattle.std.specs.Prelude.{Option, position, min}
use Rattle.std.specs.List.{list_any, position_or_len}
use Rattle.std.proofs.lemmas.Bool.{cond-true, cond-false, ltb-true, ltb-false}
use Rattle.std.proofs.lemmas.Bool.Decides.{nat_tests}
use Rattle.std.proofs.lemmas.List.{drop_all, drop_more, get_or-set_same, length-set, get_or_push}
use Rattle.std.proofs.lemmas.List.Folds.{list_any_none, list_any_at}
use Rattle.std.proofs.lemmas.List.Sums.{passes_at_first, fails_before_first}
use Rattle.mail_base.specs.Rulesets.{Ruled, is_named}
use Rattle.cf_reader.specs.SetLines.{has_one, named, with_names, with_first, begun, empty_set}
use Rattle.cf_reader.specs.inner.Places.{earlier}

-- ---- the earlier of two places

abbrev place_when : ℕ → ℕ → Option ℕ
place_when long k = cond (ltb k long) (Some k) None

place_both : (long a b : ℕ) (x y : Bool) → ltb a long ≡ x → ltb b long ≡ y → place_when long (min a b) ≡ earlier (place_when long a) (place_when long b)
place_both long a b true true e f =
    let low : a < long = ltb-true a long e in
    let low2 : b < long = ltb-true b long f in
    let both : ltb (min a b) long ≡ true = grind (arith, nat_tests, low, low2) in
    cond-true _ (Some (min a b)) None both
    ∙ sym ((λ i. earlier (cond (e i) (Some a) None) (cond (f i) (Some b) None)))
place_both long a b true false e f =
    let low : a < long = ltb-true a long e in
    let high : long ≤ b = ltb-false b long f in
    let is : min a b ≡ a = omega (arith, low, high) in
    ap (place_when long) is ∙ cond-true _ (Some a) None e ∙ sym ((λ i. earlier (cond (e i) (Some a) None) (cond (f i) (Some b) None)))
place_both long a b false true e f =
    let high : long ≤ a = ltb-false a long e in
    let low : b < long = ltb-true b long f in
    let is : min a b ≡ b = omega (arith, low, high) in
    ap (place_when long) is ∙ cond-true _ (Some b) None f ∙ sym ((λ i. earlier (cond (e i) (Some a) None) (cond (f i) (Some b) None)))
place_both long a b false false e f =
    let high : long ≤ a = ltb-false a long e in
    let high2 : long ≤ b = ltb-false b long f in
    let neither : ltb (min a b) long ≡ false = grind (arith, nat_tests, high, high2) in
    cond-false _ (Some (min a b)) None neither ∙ sym ((λ i. earlier (cond (e i) (Some a) None) (cond (f i) (Some b) None)))

place_of_both : (p q : Bool) (a b : ℕ) → cond (not (p || q)) (1 + min a b) 0 ≡ min (cond (not p) (1 + a) 0) (cond (not q) (1 + b) 0)
place_of_both true q a b = omega arith
place_of_both false true a b = omega arith
place_of_both false false a b = omega arith

-- the first that passes one of two tests stands at the earlier of their places
first_of_both : (p q : Ruled → Bool) (book : List Ruled) → position_or_len (λ s. p s || q s) book ≡ min (position_or_len p book) (position_or_len q book)
first_of_both p q [] = refl
first_of_both p q (s ∷ book) =
    ap (λ (n : ℕ). cond (not (p s || q s)) (1 + n) 0) (first_of_both p q book) ∙ place_of_both (p s) (q s) (position_or_len p book) (position_or_len q book)

place_of_one : (name : List ℕ) (names : List (List ℕ)) (book : List Ruled) → position (has_one (name ∷ names)) book ≡ earlier (position (is_named name) book) (position (has_one names) book)
place_of_one name names book =
    ap (place_when (length book)) (first_of_both (is_named name) (has_one names) book)
    ∙ place_both (length book) (position_or_len (is_named name) book) (position_or_len (has_one names) book) _ _ refl refl

earlier_assoc : (a b c : Option ℕ) → earlier (earlier a b) c ≡ earlier a (earlier b c)
earlier_assoc None b c = refl
earlier_assoc (Some a) None c = refl
earlier_assoc (Some a) (Some b) None = refl
earlier_assoc (Some a) (Some b) (Some c) = let is : min (min a b) c ≡ min a (min b c) = omega arith in ap Some is

-- what is left begins with the next name
next_name : (names : List (List ℕ)) (k : ℕ) (name : List ℕ) → k < length names → name ≡ get_or names k name → drop k names ≡ name ∷ drop (k + 1) names
next_name names k name lt here = drop_more names k name lt ∙ ap (λ (n : List ℕ). n ∷ drop (k + 1) names) (sym here)

-- one name more was looked for
pub place_more : (names : List (List ℕ)) (book : List Ruled) (k : ℕ) (name : List ℕ) (first found next : Option ℕ) → k < length names → name ≡ get_or names k name → found ≡ position (is_named name) book → next ≡ earlier first found
    → earlier next (position (has_one (drop (k + 1) names)) book) ≡ earlier first (position (has_one (drop k names)) book)
place_more names book k name first found next lt here was is =
    let rest = position (has_one (drop (k + 1) names)) book in
    ap (λ (o : Option ℕ). earlier o rest) (is ∙ ap (earlier first) was)
    ∙ earlier_assoc first (position (is_named name) book) rest
    ∙ ap (earlier first) (sym (place_of_one name (drop (k + 1) names) book))
    ∙ ap (λ (ns : List (List ℕ)). earlier first (position (has_one ns) book)) (sym (next_name names k name lt here))

none_passes : (book : List Ruled) → position_or_len (λ (s : Ruled). false) book ≡ length book
none_passes [] = refl
none_passes (s ∷ book) = omega (arith, none_passes book)

-- no name names no ruleset
place_of_none : (book : List Ruled) → position (has_one []) book ≡ None
place_of_none book =
    let past : ltb (length book) (length book) ≡ false = grind (arith, nat_tests) in
    ap (place_when (length book)) (none_passes book) ∙ cond-false _ (Some (length book)) None past

earlier_none : (o : Option ℕ) → earlier o None ≡ o
earlier_none None = refl
earlier_none (Some k) = refl

-- all names were looked for
pub place_done : (names : List (List ℕ)) (book : List Ruled) (k : ℕ) (first whole : Option ℕ) → length names ≤ k → earlier first (position (has_one (drop k names)) book) ≡ whole → first ≡ whole
place_done names book k first whole end is =
    let gone : drop k names ≡ [] = drop_all k names end in
    sym (ap (λ (ns : List (List ℕ)). earlier first (position (has_one ns) book)) gone ∙ ap (earlier first) (place_of_none book) ∙ earlier_none first) ∙ is

-- ---- the first ruleset of a kind

-- the first that passes stands there
pub record IsFirst (passes : Ruled → Bool) (book : List Ruled) (place : ℕ) : Type 0 where
  pub within : place < length book
  pub first : position_or_len passes book ≡ place

-- the position of the first item that passes is where the first one stands
pub is_first : (passes : Ruled → Bool) (book : List Ruled) (place : ℕ) → position passes book ≡ Some place → IsFirst passes book place
is_first passes book place is = by (ltb (position_or_len passes book) (length book)) refl
  where
    by : (b : Bool) → ltb (position_or_len passes book) (length book) ≡ b → IsFirst passes book place
    by true e =
        let same : Some (position_or_len passes book) ≡ Some place = sym (ap (λ b. cond b (Some (position_or_len passes book)) None) e) ∙ is in
        let at : position_or_len passes book ≡ place = cc same in
        let lt : position_or_len passes book < length book = ltb-true (position_or_len passes book) (length book) e in
        record { within = subst (λ (k : ℕ). k < length book) at lt; first = at }
    by false e =
        let same : None ≡ Some place = sym (ap (λ b. cond b (Some (position_or_len passes book)) None) e) ∙ is in
        absurd (cc same)

-- none passes
pub none_there : (passes : Ruled → Bool) (book : List Ruled) → position passes book ≡ None → list_any passes book ≡ false
none_there passes book is = list_any_none passes book (λ k e lt. by k e lt (ltb (position_or_len passes book) (length book)) refl)
  where
    by : (k : ℕ) (e : Ruled) → k < length book → (b : Bool) → ltb (position_or_len passes book) (length book) ≡ b → passes (get_or book k e) ≡ false
    by k e lt true t =
        let same : Some (position_or_len passes book) ≡ None = sym (ap (λ b. cond b (Some (position_or_len passes book)) None) t) ∙ is in
        absurd (cc same)
    by k e lt false f =
        let most : length book ≤ position_or_len passes book = ltb-false (position_or_len passes book) (length book) f in
        fails_before_first passes book k e (omega (arith, lt, most))

place_here : (passes : Bool) (n place : ℕ) → cond (not passes) (1 + n) 0 ≡ place → place ≡ 0 → passes ≡ true
place_here true n place e z = refl
place_here false n place e z = absurd (omega (arith, e))

place_after : (passes : Bool) (n place : ℕ) → cond (not passes) (1 + n) 0 ≡ suc place → (passes ≡ false) × (n ≡ place)
place_after true n place e = absurd (omega (arith, e))
place_after false n place e = (refl, omega (arith, e))

-- what is changed there is the first that passes
pub changed_at : (passes : Ruled → Bool) (change : Ruled → Ruled) (book : List Ruled) (place : ℕ) (d : Ruled) → IsFirst passes book place → set book place (change (get_or book place d)) ≡ with_first passes change book
changed_at passes change [] place d at = absurd (omega (arith, at.within))
changed_at passes change (s ∷ ss) zero d at =
    let here = place_here (passes s) (position_or_len passes ss) zero at.first refl in
    sym (cond-true (passes s) (change s ∷ ss) (s ∷ with_first passes change ss) here)
changed_at passes change (s ∷ ss) (suc place) d at =
    let after = place_after (passes s) (position_or_len passes ss) place at.first in
    let lt : place < length ss = omega (arith, at.within) in
    ap (λ (q : List Ruled). s ∷ q) (changed_at passes change ss place d (record { within = lt; first = after.1 }))
    ∙ sym (cond-false (passes s) (change s ∷ ss) (s ∷ with_first passes change ss) after.0)

-- and where none passes nothing is changed
pub changed_none : (passes : Ruled → Bool) (change : Ruled → Ruled) (book : List Ruled) → list_any passes book ≡ false → with_first passes change book ≡ book
changed_none passes change [] none = refl
changed_none passes change (s ∷ ss) none = by (passes s) refl none (λ n. changed_none passes change ss n)
  where
    by : (b : Bool) → passes s ≡ b → b || list_any passes ss ≡ false → (list_any passes ss ≡ false → with_first passes change ss ≡ ss) → with_first passes change (s ∷ ss) ≡ s ∷ ss
    by true e n go = absurd (cc n)
    by false e n go = cond-false (passes s) (change s ∷ ss) (s ∷ with_first passes change ss) e ∙ ap (λ (q : List Ruled). s ∷ q) (go n)

-- ---- lines

-- the ruleset that has one of the names gets the others
pub begun_at : (names : List (List ℕ)) (book new : List Ruled) (place : ℕ) → position (has_one names) book ≡ Some place → ((d : Ruled) → new ≡ set book place (with_names names (get_or book place d))) → new ≡ begun names book
begun_at names book new place is made =
    let at = is_first (has_one names) book place is in
    let d : Ruled = empty_set in
    let there = passes_at_first (has_one names) book d (omega (arith, at.within, at.first)) in
    let some = list_any_at (has_one names) book (position_or_len (has_one names) book) d (omega (arith, at.within, at.first)) there in
    made d ∙ changed_at (has_one names) (with_names names) book place d at ∙ sym (cond-true _ (with_first (has_one names) (with_names names) book) _ some)

set_last : (book : List Ruled) (s t : Ruled) → set (book ++ s ∷ []) (length book) t ≡ book ++ t ∷ []
set_last [] s t = refl
set_last (b ∷ book) s t = ap (λ (q : List Ruled). b ∷ q) (set_last book s t)

-- a new ruleset has them all
pub begun_new : (names : List (List ℕ)) (book pushed new : List Ruled) (place : ℕ) → position (has_one names) book ≡ None → pushed ≡ book ++ empty_set ∷ [] → place ≡ length book
    → ((d : Ruled) → new ≡ set pushed place (with_names names (get_or pushed place d))) → new ≡ begun names book
begun_new names book pushed new place none put last made =
    let last_is : get_or (book ++ empty_set ∷ []) (length book) empty_set ≡ empty_set = get_or_push book empty_set empty_set (length book) refl in
    made empty_set
    ∙ (λ i. set (put i) (last i) (with_names names (get_or (put i) (last i) empty_set)))
    ∙ ap (λ (s : Ruled). set (book ++ empty_set ∷ []) (length book) (with_names names s)) last_is
    ∙ set_last book empty_set (with_names names empty_set)
    ∙ sym (cond-false _ (with_first (has_one names) (with_names names) book) (book ++ with_names names empty_set ∷ []) (none_there (has_one names) book none))

-- ---- names of one ruleset

set_twice : (book : List Ruled) (place : ℕ) (s t : Ruled) → set (set book place s) place t ≡ set book place t
set_twice [] place s t = refl
set_twice (b ∷ book) zero s t = refl
set_twice (b ∷ book) (suc place) s t = ap (λ (q : List Ruled). b ∷ q) (set_twice book place s t)

-- one name more was given
pub name_more : (names : List (List ℕ)) (book new : List Ruled) (place k : ℕ) (name : List ℕ) (d : Ruled) → k < length names → name ≡ get_or names k name → place < length book
    → ((d : Ruled) → new ≡ set book place (named (get_or book place d) name)) → set new place (with_names (drop (k + 1) names) (get_or new place d)) ≡ set book place (with_names (drop k names) (get_or book place d))
name_more names book new place k name d lt here within made =
    let s = named (get_or book place d) name in
    (λ i. set (made d i) place (with_names (drop (k + 1) names) (get_or (made d i) place d)))
    ∙ ap (λ (t : Ruled). set (set book place s) place (with_names (drop (k + 1) names) t)) (get_or-set_same book place s d within)
    ∙ set_twice book place s (with_names (drop (k + 1) names) s)
    ∙ ap (λ (ns : List (List ℕ)). set book place (with_names ns (get_or book place d))) (sym (next_name names k name lt here))

-- a rule set put in a book's place stands within the new book
pub name_within : (book new : List Ruled) (place : ℕ) (s : Ruled) → place < length book → new ≡ set book place s → place < length new
name_within book new place s within made = let long : length new ≡ length book = ap length made ∙ length-set book place s in omega (arith, long, within)
