-- Items that no equal one stands before, gathered from the front.
use Rattle.std.proofs.Common.{◌≡◌, List, [], ◌∷◌, ◌++◌, Bool, true, false, ◌||◌, not, cond, Some, if◌then◌else◌, refl, sym, ◌∙◌, ap, subst}
use Rattle.std.specs.Prelude.{filter}
use Rattle.std.specs.Cmp.{IsEquivalence, both_ways}
use Rattle.std.specs.List.{find, list_any}
use Rattle.std.proofs.lemmas.List.Elements.{filter-append}
use Rattle.indexmap.specs.IndexSet.{insert_key}
use Rattle.queue_plan.specs.Rows.{AreApart, firsts}

-- a test that says where two values are one is an equivalence
pub equiv_of : {X : Type 0} (same : X → X → Bool) → ((x y : X) → same x y ≡ true → x ≡ y) → ((x : X) → same x x ≡ true) → IsEquivalence same
equiv_of {X} same one itself =
    let back : (x y : X) → same x y ≡ true → same y x ≡ true = λ x y e. subst (λ z. same z x ≡ true) (one x y e) (itself x) in
    record {
      refl = itself;
      symm = λ x y. both_ways (same x y) (same y x) (back x y) (back y x);
      congr = λ x y z e. ap (λ w. same w z) (one x y e);
    }

module _ {X : Type 0} (same : X → X → Bool) (laws : IsEquivalence same) where
  abbrev other_than : X → X → Bool
  other_than x y = not (same x y)

  -- an item that differs from one is among others where it is among those that differ from it too
  pub any_apart : (x y : X) → same x y ≡ false → (zs : List X) → list_any (same y) (filter (other_than x) zs) ≡ list_any (same y) zs
  any_apart x y apart [] = refl
  any_apart x y apart (z ∷ zs) = by (same x z) refl (any_apart x y apart zs)
    where
      by : (b : Bool) → same x z ≡ b → list_any (same y) (filter (other_than x) zs) ≡ list_any (same y) zs → list_any (same y) (filter (other_than x) (z ∷ zs)) ≡ list_any (same y) (z ∷ zs)
      by true e rest =
          ap (λ b. list_any (same y) (cond (not b) (z ∷ filter (other_than x) zs) (filter (other_than x) zs))) e
          ∙ rest
          ∙ sym (ap (λ b. b || list_any (same y) zs) (laws.symm y z ∙ sym (laws.congr x z y e) ∙ apart))
      by false e rest =
          ap (λ b. list_any (same y) (cond (not b) (z ∷ filter (other_than x) zs) (filter (other_than x) zs))) e
          ∙ ap (λ b. same y z || b) rest

  module _ (x y : X) (L : List X) where
    abbrev F : List X
    F = filter (other_than x) L

    abbrev left : Bool → List X
    left c = x ∷ filter (other_than x) (if c then L else L ++ y ∷ [])

    abbrev right : Bool → List X
    right c = if c then x ∷ F else (x ∷ F) ++ y ∷ []

    nothing : (zs : List X) → zs ++ [] ≡ zs
    nothing [] = refl
    nothing (z ∷ zs) = ap (λ q. z ∷ q) (nothing zs)

    -- the last one is left out where it is equal to the first
    last : (a : Bool) → same x y ≡ a → filter (other_than x) (L ++ y ∷ []) ≡ F ++ cond (not a) (y ∷ []) []
    last a e = filter-append (other_than x) L (y ∷ []) ∙ ap (λ c. F ++ cond (not c) (y ∷ []) []) e

    -- it is met where it is equal to the first, or else among the others
    met : (a b : Bool) → same x y ≡ a → list_any (same y) L ≡ b → (same y x || list_any (same y) F) ≡ (a || b)
    met true b e f = ap (λ c. c || list_any (same y) F) (laws.symm y x ∙ e)
    met false b e f = ap (λ c. c || list_any (same y) F) (laws.symm y x ∙ e) ∙ any_apart x y e L ∙ f

    one_more : (a b : Bool) → same x y ≡ a → left b ≡ right (a || b)
    one_more true true e = refl
    one_more true false e = ap (λ q. x ∷ q) (last true e ∙ nothing F)
    one_more false true e = refl
    one_more false false e = ap (λ q. x ∷ q) (last false e)

    pub behind_first : (a b : Bool) → same x y ≡ a → list_any (same y) L ≡ b → x ∷ filter (other_than x) (insert_key same L y) ≡ insert_key same (x ∷ F) y
    behind_first a b e f = ap left f ∙ one_more a b e ∙ sym (ap right (met a b e f))

  -- an item more is behind the others where none is equal to it
  pub firsts_push : (xs : List X) (y : X) → firsts same (xs ++ y ∷ []) ≡ insert_key same (firsts same xs) y
  firsts_push [] y = refl
  firsts_push (x ∷ xs) y =
      ap (λ q. x ∷ filter (other_than x) q) (firsts_push xs y)
      ∙ behind_first x y (firsts same xs) (same x y) (list_any (same y) (firsts same xs)) refl refl

  -- an item is among others where it is among the first ones of these
  pub any_firsts : (y : X) (xs : List X) → list_any (same y) (firsts same xs) ≡ list_any (same y) xs
  any_firsts y [] = refl
  any_firsts y (x ∷ xs) = by (same y x) refl (any_firsts y xs)
    where
      by : (b : Bool) → same y x ≡ b → list_any (same y) (firsts same xs) ≡ list_any (same y) xs → list_any (same y) (firsts same (x ∷ xs)) ≡ list_any (same y) (x ∷ xs)
      by true e rest = ap (λ c. c || list_any (same y) (filter (other_than x) (firsts same xs))) e ∙ sym (ap (λ c. c || list_any (same y) xs) e)
      by false e rest = (λ i. same y x || (any_apart x y (laws.symm x y ∙ e) (firsts same xs) ∙ rest) i)

  none_left : (q p : X → Bool) (xs : List X) → list_any q xs ≡ false → list_any q (filter p xs) ≡ false
  none_left q p [] none = refl
  none_left q p (x ∷ xs) none = by (p x) refl (none_left q p xs (rest (q x) none))
    where
      rest : (b : Bool) → (b || list_any q xs) ≡ false → list_any q xs ≡ false
      rest true e = absurd (cc e)
      rest false e = e

      head : (b : Bool) → (b || list_any q xs) ≡ false → b ≡ false
      head true e = e
      head false e = refl

      by : (b : Bool) → p x ≡ b → list_any q (filter p xs) ≡ false → list_any q (filter p (x ∷ xs)) ≡ false
      by true e h = ap (λ c. list_any q (cond c (x ∷ filter p xs) (filter p xs))) e ∙ ap (λ c. c || list_any q (filter p xs)) (head (q x) none) ∙ h
      by false e h = ap (λ c. list_any q (cond c (x ∷ filter p xs) (filter p xs))) e ∙ h

  apart_left : (p : X → Bool) (xs : List X) → AreApart same xs → AreApart same (filter p xs)
  apart_left p [] a = tt
  apart_left p (x ∷ xs) a = by (p x) refl (apart_left p xs a.1)
    where
      by : (b : Bool) → p x ≡ b → AreApart same (filter p xs) → AreApart same (filter p (x ∷ xs))
      by true e h = subst (λ c. AreApart same (cond c (x ∷ filter p xs) (filter p xs))) (sym e) (none_left (same x) p xs a.0, h)
      by false e h = subst (λ c. AreApart same (cond c (x ∷ filter p xs) (filter p xs))) (sym e) h

  none_equal : (x : X) (xs : List X) → list_any (same x) (filter (other_than x) xs) ≡ false
  none_equal x [] = refl
  none_equal x (z ∷ zs) = by (same x z) refl (none_equal x zs)
    where
      by : (b : Bool) → same x z ≡ b → list_any (same x) (filter (other_than x) zs) ≡ false → list_any (same x) (filter (other_than x) (z ∷ zs)) ≡ false
      by true e h = ap (λ c. list_any (same x) (cond (not c) (z ∷ filter (other_than x) zs) (filter (other_than x) zs))) e ∙ h
      by false e h = ap (λ c. list_any (same x) (cond (not c) (z ∷ filter (other_than x) zs) (filter (other_than x) zs))) e ∙ ap (λ c. c || list_any (same x) (filter (other_than x) zs)) e ∙ h

  -- no two of the first ones are equal
  pub apart_firsts : (xs : List X) → AreApart same (firsts same xs)
  apart_firsts [] = tt
  apart_firsts (x ∷ xs) = (none_equal x (firsts same xs), apart_left (other_than x) (firsts same xs) (apart_firsts xs))

  -- the first one that is equal to an item stands among those that differ from another one
  find_apart : (x y : X) → same x y ≡ false → (zs : List X) → find (same y) (filter (other_than x) zs) ≡ find (same y) zs
  find_apart x y apart [] = refl
  find_apart x y apart (z ∷ zs) = by (same x z) refl (find_apart x y apart zs)
    where
      by : (b : Bool) → same x z ≡ b → find (same y) (filter (other_than x) zs) ≡ find (same y) zs → find (same y) (filter (other_than x) (z ∷ zs)) ≡ find (same y) (z ∷ zs)
      by true e rest =
          ap (λ b. find (same y) (cond (not b) (z ∷ filter (other_than x) zs) (filter (other_than x) zs))) e
          ∙ rest
          ∙ sym (ap (λ b. cond b (Some z) (find (same y) zs)) (laws.symm y z ∙ sym (laws.congr x z y e) ∙ apart))
      by false e rest =
          ap (λ b. find (same y) (cond (not b) (z ∷ filter (other_than x) zs) (filter (other_than x) zs))) e
          ∙ ap (λ o. cond (same y z) (Some z) o) rest

  -- the first item that is equal to one stays
  pub find_firsts : (y : X) (xs : List X) → find (same y) (firsts same xs) ≡ find (same y) xs
  find_firsts y [] = refl
  find_firsts y (x ∷ xs) = by (same y x) refl (find_firsts y xs)
    where
      by : (b : Bool) → same y x ≡ b → find (same y) (firsts same xs) ≡ find (same y) xs → find (same y) (firsts same (x ∷ xs)) ≡ find (same y) (x ∷ xs)
      by true e rest = ap (λ c. cond c (Some x) (find (same y) (filter (other_than x) (firsts same xs)))) e ∙ sym (ap (λ c. cond c (Some x) (find (same y) xs)) e)
      by false e rest =
          ap (λ c. cond c (Some x) (find (same y) (filter (other_than x) (firsts same xs)))) e
          ∙ find_apart x y (laws.symm x y ∙ e) (firsts same xs) ∙ rest
          ∙ sym (ap (λ c. cond c (Some x) (find (same y) xs)) e)
