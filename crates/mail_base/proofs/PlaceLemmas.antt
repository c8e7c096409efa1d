-- What the places of names find.
use Rattle.std.proofs.Common.{◌≡◌, ℕ, zero, suc, ◌+◌, ◌*◌, ◌%◌, ◌^◌, ◌≤◌, ◌<◌, List, [], ◌∷◌, Bool, true, false, ◌&&◌, Option, Some, None, length, map, fold, get_or, position, slice_get, nat_eq, nat_lt, cond, refl, ap, sym, subst, ◌∙◌, arith, if◌then◌else◌, true≢false, inl, inr, ◌⊎◌}
use Rattle.std.specs.Prelude.{IfSome}
use Rattle.std.specs.List.{find, list_any, position_or_len}
use Rattle.std.specs.Map.{lookup}
use Rattle.std.specs.Char.{to_ascii_lowercase}
use Rattle.std.specs.Str.{str_to_ascii_lowercase, str_eq_ignore_ascii_case}
use Rattle.std.proofs.lemmas.Slice.Eq.{bytes_eq-Decides}
use Rattle.std.proofs.lemmas.Bool.{cases_order, or_cases, or_left, or_right, eqb-true, eq-eqb, leb-true, ltb-true, ltb-false}
use Rattle.std.proofs.lemmas.List.Folds.{find_at}
use Rattle.std.proofs.lemmas.List.Sums.{position_or_len_is}
use Rattle.std.proofs.lemmas.Option.{slice_get-get_or, slice_get_past, slice_get_within}
use Rattle.mail_base.specs.Places.{Held, hash_step, hash_of, is_held, is_held_for, IsFirstAt, IsIndexed, IsIndexedTo, Keeps, passes_at, IsFound}
use Rattle.mail_base.specs.inner.Looking.{is_before, is_up_to, earlier, found_at, looked}

-- ---- equal names have one hash

abbrev folded_step : ℕ → ℕ → ℕ
folded_step hash byte = (hash * 31 % 2 ^ 64 + byte) % 2 ^ 64

folded_hash : (hash : ℕ) (name : List ℕ) → fold hash_step hash name ≡ fold folded_step hash (map to_ascii_lowercase name)
folded_hash hash [] = refl
folded_hash hash (byte ∷ name) = folded_hash (hash_step hash byte) name

same_hash : (one other : List ℕ) → str_eq_ignore_ascii_case one other ≡ true → hash_of one ≡ hash_of other
same_hash one other same =
    folded_hash 0 one ∙ ap (fold folded_step 0) ((bytes_eq-Decides (str_to_ascii_lowercase one) (str_to_ascii_lowercase other)).0 same) ∙ sym (folded_hash 0 other)

-- a place that is held for a name is held for each name that equals it
pub held_alike : (one other : List ℕ) (place : ℕ) (held : Held) → str_eq_ignore_ascii_case one other ≡ true → is_held_for one place held ≡ true → is_held_for other place held ≡ true
held_alike one other place held same is =
    ap (λ (hash : ℕ). is_held place (lookup (nat_eq hash) held.index) held.others) (sym (same_hash one other same)) ∙ is

-- ---- what stands first

module _ {X : Type 0} (test : X → Bool) where
  none_some : (x : X) → None ≡ Some x → ⊥
  none_some x same = absurd (cc same)

  abbrev Ends : List X → Type 0
  Ends xs = ((place : ℕ) × IsFirstAt test xs place) ⊎ ((k : ℕ) (other : X) → slice_get xs k ≡ Some other → test other ≡ false)

  ends_by : (x : X) (xs : List X) (b : Bool) → test x ≡ b → Ends xs → Ends (x ∷ xs)
  ends_by x xs true passes ends = inl (0, record { one = x; stands = refl; passes = passes; before = λ k other lt is. absurd (omega (arith, lt)) })
  ends_by x xs false fails (inl (place, first)) = inl (suc place, record { one = first.one; stands = first.stands; passes = first.passes; before = before })
    where
      before : (k : ℕ) (other : X) → k < suc place → slice_get (x ∷ xs) k ≡ Some other → test other ≡ false
      before zero other lt is = let e : x ≡ other = cc is in ap test (sym e) ∙ fails
      before (suc k) other lt is = first.before k other (omega (arith, lt)) is
  ends_by x xs false fails (inr all) = inr at
    where
      at : (k : ℕ) (other : X) → slice_get (x ∷ xs) k ≡ Some other → test other ≡ false
      at zero other is = let e : x ≡ other = cc is in ap test (sym e) ∙ fails
      at (suc k) other is = all k other is

  -- something stands first, or nothing passes
  ends : (xs : List X) → Ends xs
  ends [] = inr (λ k other is. absurd (none_some other is))
  ends (x ∷ xs) = ends_by x xs (test x) refl (ends xs)

-- ---- the least place that is held

module _ {X : Type 0} (test : X → Bool) (items : List X) (held : ℕ → Bool) where
  abbrev named_at : ℕ → Bool
  named_at place = passes_at test (slice_get items place)

  abbrev IsGood : Option ℕ → Type 0
  IsGood None = Unit {0}
  IsGood (Some place) = (named_at place ≡ true) × (held place ≡ true)

  abbrev IsUpTo : ℕ → Option ℕ → Type 0
  IsUpTo place None = ⊥
  IsUpTo place (Some first) = first ≤ place

  record IsStep (first : Option ℕ) (place : ℕ) (now : Option ℕ) : Type 0 where
    good : IsGood now
    stays : (other : ℕ) → IsUpTo other first → IsUpTo other now
    takes : named_at place ≡ true → IsUpTo place now

  taken : (first : Option ℕ) (place : ℕ) → IsGood first → held place ≡ true → (here before : Bool) → named_at place ≡ here → is_before place first ≡ before
      → IsStep first place (if here && before then Some place else first)
  taken None place good is true true here before = record { good = (here, is); stays = λ other h. absurd h; takes = λ h. omega arith }
  taken None place good is true false here before = absurd (true≢false before)
  taken (Some first) place good is true true here before =
      record { good = (here, is); stays = λ other h. let less = ltb-true place first before in omega (arith, h, less); takes = λ h. omega arith }
  taken (Some first) place good is true false here before = record { good = good; stays = λ other h. h; takes = λ h. let most = ltb-false place first before in omega (arith, most) }
  taken first place good is false before e b = record { good = good; stays = λ other h. h; takes = λ h. absurd (true≢false (sym h ∙ e)) }

  stepped : (first : Option ℕ) (place : ℕ) → IsGood first → held place ≡ true → IsStep first place (earlier test items first place)
  stepped first place good is = taken first place good is (named_at place) (is_before place first) refl refl

  record IsLeast (first : Option ℕ) (places : List ℕ) (now : Option ℕ) : Type 0 where
    good : IsGood now
    stays : (other : ℕ) → IsUpTo other first → IsUpTo other now
    takes : (place : ℕ) → list_any (nat_eq place) places ≡ true → named_at place ≡ true → IsUpTo place now

  least : (places : List ℕ) (first : Option ℕ) → IsGood first → ((place : ℕ) → list_any (nat_eq place) places ≡ true → held place ≡ true) → IsLeast first places (fold (earlier test items) first places)
  least [] first good all = record { good = good; stays = λ other h. h; takes = λ place h n. absurd (true≢false (sym h)) }
  least (p ∷ places) first good all =
      let step = stepped first p good (all p (or_left (nat_eq p p) (list_any (nat_eq p) places) (eq-eqb p p refl))) in
      let rest = least places (earlier test items first p) step.good (λ place h. all place (or_right (nat_eq place p) (list_any (nat_eq place) places) h)) in
      record {
        good = rest.good;
        stays = λ other h. rest.stays other (step.stays other h);
        takes = λ place h n. by place (rest.takes place) (rest.stays place) step.takes (or_cases (nat_eq place p) (list_any (nat_eq place) places) h) n;
      }
    where
      by : (place : ℕ) → (list_any (nat_eq place) places ≡ true → named_at place ≡ true → IsUpTo place (fold (earlier test items) (earlier test items first p) places))
          → (IsUpTo place (earlier test items first p) → IsUpTo place (fold (earlier test items) (earlier test items first p) places)) → (named_at p ≡ true → IsUpTo p (earlier test items first p))
          → (nat_eq place p ≡ true) ⊎ (list_any (nat_eq place) places ≡ true) → named_at place ≡ true → IsUpTo place (fold (earlier test items) (earlier test items first p) places)
      by place rest stays here (inl same) n =
          let is : place ≡ p = eqb-true place p same in
          stays (subst (λ (q : ℕ). IsUpTo q (earlier test items first p)) (sym is) (here (subst (λ (q : ℕ). named_at q ≡ true) is n)))
      by place rest stays here (inr there) n = rest there n

module _ {X : Type 0} (test : X → Bool) (items : List X) (others : List ℕ) where
  abbrev held_at : Option ℕ → ℕ → Bool
  held_at found place = is_held place found others

  record Finds (found now : Option ℕ) : Type 0 where
    good : IsGood test items (held_at found) now
    takes : (place : ℕ) → held_at found place ≡ true → named_at test items (held_at found) place ≡ true → IsUpTo test items (held_at found) place now

  finds : (found : Option ℕ) → Finds found (fold (earlier test items) (found_at test items found) others)
  finds None =
      let rest = least test items (held_at None) others None tt (λ place h. h) in
      record { good = rest.good; takes = λ place h n. rest.takes place h n }
  finds (Some q) =
      let step = stepped test items (held_at (Some q)) None q tt (or_left (nat_eq q q) (list_any (nat_eq q) others) (eq-eqb q q refl)) in
      let rest = least test items (held_at (Some q)) others (earlier test items None q) step.good (λ place h. or_right (nat_eq place q) (list_any (nat_eq place) others) h) in
      record { good = rest.good; takes = λ place h n. by place (rest.takes place) (rest.stays place) step.takes (or_cases (nat_eq place q) (list_any (nat_eq place) others) h) n }
    where
      by : (place : ℕ) → (list_any (nat_eq place) others ≡ true → named_at test items (held_at (Some q)) place ≡ true → IsUpTo test items (held_at (Some q)) place (fold (earlier test items) (earlier test items None q) others))
          → (IsUpTo test items (held_at (Some q)) place (earlier test items None q) → IsUpTo test items (held_at (Some q)) place (fold (earlier test items) (earlier test items None q) others)) → (named_at test items (held_at (Some q)) q ≡ true → IsUpTo test items (held_at (Some q)) q (earlier test items None q))
          → (nat_eq place q ≡ true) ⊎ (list_any (nat_eq place) others ≡ true) → named_at test items (held_at (Some q)) place ≡ true → IsUpTo test items (held_at (Some q)) place (fold (earlier test items) (earlier test items None q) others)
      by place rest stays here (inl same) n =
          let is : place ≡ q = eqb-true place q same in
          stays (subst (λ (p : ℕ). IsUpTo test items (held_at (Some q)) p (earlier test items None q)) (sym is) (here (subst (λ (p : ℕ). named_at test items (held_at (Some q)) p ≡ true) is n)))
      by place rest stays here (inr there) n = rest there n

-- ---- the first place

module _ {X : Type 0} (test : X → Bool) (items : List X) where
  -- the first place passes
  first_passes : (place : ℕ) → IsFirstAt test items place → passes_at test (slice_get items place) ≡ true
  first_passes place first = ap (passes_at test) first.stands ∙ first.passes

  -- a place that passes isn't before the first one
  not_before : (place k : ℕ) → IsFirstAt test items place → passes_at test (slice_get items k) ≡ true → k < place → ⊥
  not_before place k first named lt = by (slice_get items k) refl named
    where
      by : (o : Option X) → slice_get items k ≡ o → passes_at test o ≡ true → ⊥
      by None is h = true≢false (sym h)
      by (Some one) is h = true≢false (sym h ∙ first.before k one lt is)

  -- the first place, where it isn't past one that passes, is that
  pub same_place : (place q : ℕ) → IsFirstAt test items place → passes_at test (slice_get items q) ≡ true → q ≤ place → q ≡ place
  same_place place q first named le = elim (cases_order q place) [
    | inl e ↦ e
    | inr (inl less) ↦ absurd (not_before place q first named less)
    | inr (inr more) ↦ absurd (omega (arith, le, more))
  ]

  at_place : (k : ℕ) (d : X) → k < length items → passes_at test (slice_get items k) ≡ test (get_or items k d)
  at_place k d lt = ap (passes_at test) (slice_get-get_or items k d lt)

  position_first : (place : ℕ) → IsFirstAt test items place → Some place ≡ position test items
  position_first place first =
      let d = first.one in
      let lt : place < length items = slice_get_within items place d first.stands in
      let n : position_or_len test items ≡ place =
      position_or_len_is test items place d (omega (arith, lt)) (λ k less. first.before k (get_or items k d) less (slice_get-get_or items k d (omega (arith, less, lt))))
      (λ l. sym (at_place place d lt) ∙ first_passes place first) in
      rw n grind (arith, lt)

position_none : {X : Type 0} (test : X → Bool) (items : List X) → ((k : ℕ) (other : X) → slice_get items k ≡ Some other → test other ≡ false) → None ≡ position test items
position_none test [] all = refl
position_none test (x ∷ xs) all =
    let n : position_or_len test (x ∷ xs) ≡ length (x ∷ xs) =
    position_or_len_is test (x ∷ xs) (length (x ∷ xs)) x (omega arith) (λ k lt. all k (get_or (x ∷ xs) k x) (slice_get-get_or (x ∷ xs) k x lt)) (λ lt. absurd (omega (arith, lt))) in
    rw n grind arith

module _ {X : Type 0} (has_name : List ℕ → X → Bool) (items : List X) (held : Held) (name : List ℕ) where
  -- what is looked up is the first place of the name, if the first of each name is held
  pub first_looked : IsIndexed has_name items held → looked (has_name name) items held name ≡ position (has_name name) items
  first_looked indexed = by (looked (has_name name) items held name) (finds (has_name name) items held.others (lookup (nat_eq (hash_of name)) held.index)) (ends (has_name name) items)
    where
      nothing : (q : ℕ) (o : Option X) → slice_get items q ≡ o → passes_at (has_name name) o ≡ true → ((k : ℕ) (other : X) → slice_get items k ≡ Some other → has_name name other ≡ false) → ⊥
      nothing q None is h all = true≢false (sym h)
      nothing q (Some one) is h all = true≢false (sym h ∙ all q one is)

      by : (now : Option ℕ) → Finds (has_name name) items held.others (lookup (nat_eq (hash_of name)) held.index) now → Ends (has_name name) items → now ≡ position (has_name name) items
      by None finds (inl (place, first)) = absurd (finds.takes place (indexed name place first) (first_passes (has_name name) items place first))
      by None finds (inr all) = position_none (has_name name) items all
      by (Some q) finds (inl (place, first)) =
          ap (λ (k : ℕ). Some k) (same_place (has_name name) items place q first finds.good.0 (finds.takes place (indexed name place first) (first_passes (has_name name) items place first))) ∙ position_first (has_name name) items place first
      by (Some q) finds (inr all) = absurd (nothing q (slice_get items q) refl finds.good.0 all)

  -- what is looked up has the name and is held for it
  pub found_looked : IfSome (looked (has_name name) items held name) (IsFound has_name items held name)
  found_looked = by (looked (has_name name) items held name) (finds (has_name name) items held.others (lookup (nat_eq (hash_of name)) held.index)).good
    where
      by : (now : Option ℕ) → IsGood (has_name name) items (held_at (has_name name) items held.others (lookup (nat_eq (hash_of name)) held.index)) now → IfSome now (IsFound has_name items held name)
      by None good = tt
      by (Some q) good = record { there = good.1; named = good.0 }

-- what a walk over the places gives is what is looked up
pub looked_by : {X : Type 0} (test : X → Bool) (items : List X) (inside held : Held) (name places : List ℕ) (hash : ℕ) (found start now : Option ℕ) → now ≡ fold (earlier test items) start places → places ≡ inside.others
    → start ≡ found_at test items found → found ≡ lookup (nat_eq hash) inside.index → hash ≡ hash_of name → inside ≡ held → now ≡ looked test items held name
looked_by test items inside held name places hash found start now is others at by of view =
    is
    ∙ (λ i. fold (earlier test items) (at i) (others i))
    ∙ ap (λ (f : Option ℕ). fold (earlier test items) (found_at test items f) inside.others) (by ∙ ap (λ (h : ℕ). lookup (nat_eq h) inside.index) of)
    ∙ ap (λ (h : Held). looked test items h name) view

-- ---- the item at the first place

module _ {X : Type 0} (p : X → Bool) (xs : List X) where
  -- what stands at the first place is what is found first
  pub at_first : (r : Option ℕ) (place : ℕ) → r ≡ position p xs → r ≡ Some place → slice_get xs place ≡ find p xs
  at_first r place was is = by (nat_lt (position_or_len p xs) (length xs)) refl
    where
      by : (b : Bool) → nat_lt (position_or_len p xs) (length xs) ≡ b → slice_get xs place ≡ find p xs
      by true e =
          let same : Some (position_or_len p xs) ≡ Some place = sym (ap (λ b. cond b (Some (position_or_len p xs)) None) e) ∙ sym was ∙ is in
          let at : position_or_len p xs ≡ place = cc same in
          ap (slice_get xs) (sym at) ∙ sym (find_at p xs)
      by false e =
          let same : None ≡ Some place = sym (ap (λ b. cond b (Some (position_or_len p xs)) None) e) ∙ sym was ∙ is in
          absurd (cc same)

  -- where there is no first place nothing is found
  pub no_first : (r : Option ℕ) → r ≡ position p xs → r ≡ None → None ≡ find p xs
  no_first r was is = by (nat_lt (position_or_len p xs) (length xs)) refl
    where
      by : (b : Bool) → nat_lt (position_or_len p xs) (length xs) ≡ b → None ≡ find p xs
      by true e =
          let same : Some (position_or_len p xs) ≡ None = sym (ap (λ b. cond b (Some (position_or_len p xs)) None) e) ∙ sym was ∙ is in
          absurd (cc same)
      by false e =
          let most : length xs ≤ position_or_len p xs = ltb-false (position_or_len p xs) (length xs) e in
          sym (slice_get_past xs (position_or_len p xs) most) ∙ sym (find_at p xs)

-- ---- the places as they grow

module _ {X : Type 0} (has_name : List ℕ → X → Bool) (items : List X) where
  -- a name that is found up to its first place is held for that
  pub held_there : (name : List ℕ) (held : Held) (place : ℕ) (found : Option ℕ) → is_up_to place found ≡ true → IfSome found (IsFound has_name items held name) → IsFirstAt (has_name name) items place
      → is_held_for name place held ≡ true
  held_there name held place None up is first = absurd (true≢false (sym up))
  held_there name held place (Some q) up is first = subst (λ (k : ℕ). is_held_for name k held ≡ true) (same_place (has_name name) items place q first is.named (leb-true q place up)) is.there

  -- held for the items up to their end is held for all
  pub indexed_all : (end : ℕ) (was : Held) → length items ≤ end → IsIndexedTo has_name end items was → IsIndexed has_name items was
  indexed_all end was le indexed = λ name place first. let lt = slice_get_within items place first.one first.stands in indexed name place (omega (arith, le, lt)) first

  -- one item more
  pub indexed_more : (i : ℕ) (item : X) (was now : Held) → i < length items → item ≡ get_or items i item → Keeps was now
      → ((name : List ℕ) → has_name name item ≡ true → IsFirstAt (has_name name) items i → is_held_for name i now ≡ true) → IsIndexedTo has_name i items was → IsIndexedTo has_name (i + 1) items now
  indexed_more i item was now within at keeps held indexed = λ name place lt first. elim (cases_order place i) [
    | inl e ↦ here name place e first
    | inr (inl less) ↦ keeps name place (indexed name place less first)
    | inr (inr more) ↦ absurd (omega (arith, lt, more))
  ]
    where
      here : (name : List ℕ) (place : ℕ) → place ≡ i → IsFirstAt (has_name name) items place → is_held_for name place now ≡ true
      here name place e first =
          let there : IsFirstAt (has_name name) items i = subst (λ (k : ℕ). IsFirstAt (has_name name) items k) e first in
          let is : Some item ≡ Some there.one = ap (λ (x : X). Some x) at ∙ sym (slice_get-get_or items i item within) ∙ there.stands in
          let same : item ≡ there.one = cc is in
          subst (λ (k : ℕ). is_held_for name k now ≡ true) (sym e) (held name (ap (has_name name) same ∙ there.passes) there)
