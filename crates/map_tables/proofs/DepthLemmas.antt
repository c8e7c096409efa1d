-- Balanced bytes, by the fronts of a text and by a depth.
use Rattle.std.proofs.Common.{◌≡◌, ◌≢◌, ℕ, zero, suc, ◌+◌, ◌-◌, ◌&&◌, ◌==◌, Bool, true, false, cond, List, [], ◌∷◌, length, filter, map, refl, sym, ap, ◌∙◌, arith}
use Rattle.std.specs.Prelude.{nat_le}
use Rattle.std.specs.List.{list_all}
use Rattle.std.proofs.lemmas.Bool.{cond-true, cond-false, eqb-true, eq-eqb, ne_eqb, leb-true, leb-false, le-leb, lt-leb, true≢false}
use Rattle.std.proofs.lemmas.List.Folds.{list_all-map}
use Rattle.map_tables.specs.Quotes.{count, fronts, is_balanced}
use Rattle.map_tables.specs.inner.Depths.{is_closed_from}

all_same : {X : Type 0} (p q : X → Bool) → ((x : X) → p x ≡ q x) → (xs : List X) → list_all p xs ≡ list_all q xs
all_same p q same [] = refl
all_same p q same (x ∷ xs) = ap (λ b. b && list_all p xs) (same x) ∙ ap (λ b. q x && b) (all_same p q same xs)

-- the empty front is among them
fronts_begin : (p : List ℕ → Bool) (text : List ℕ) → p [] ≡ false → list_all p (fronts text) ≡ false
unfolding fronts
fronts_begin p [] none = ap (λ b. b && true) none
fronts_begin p (byte ∷ text) none = ap (λ b. b && list_all p (map (λ front. byte ∷ front) (fronts text))) none

grown : Bool → ℕ → ℕ
grown true n = suc n
grown false n = n

longer : (test b : Bool) (byte : ℕ) (text : List ℕ) → test ≡ b → length (cond test (byte ∷ text) text) ≡ grown b (length text)
unfolding grown
longer test true byte text is = ap (λ t. length (cond t (byte ∷ text) text)) is
longer test false byte text is = ap (λ t. length (cond t (byte ∷ text) text)) is

less_one : (a n : ℕ) → nat_le (suc a) (suc n) ≡ nat_le a n
less_one a n = by (nat_le a n) refl
  where
    by : (b : Bool) → nat_le a n ≡ b → nat_le (suc a) (suc n) ≡ nat_le a n
    by true e = let l = leb-true a n e in le-leb (suc a) (suc n) (omega (arith, l)) ∙ sym e
    by false e = let l = leb-false a n e in lt-leb (suc a) (suc n) (omega (arith, l)) ∙ sym e

same_one : (a n : ℕ) → (a == n) ≡ (suc a == suc n)
same_one a n = by (a == n) refl
  where
    by : (b : Bool) → (a == n) ≡ b → (a == n) ≡ (suc a == suc n)
    by true e = let l = eqb-true a n e in e ∙ sym (eq-eqb (suc a) (suc n) (ap suc l))
    by false e = e ∙ sym (ne_eqb (suc a) (suc n) (λ s. absurd (true≢false (sym (eq-eqb a n (omega (arith, s))) ∙ e))))

no_more : (n : ℕ) → n + 0 ≡ n
no_more n = omega arith

from_none : (n : ℕ) → 0 + n ≡ n
from_none n = omega arith

module _ (opens closes : ℕ) (differs : opens ≢ closes) where
  abbrev fits : ℕ → List ℕ → Bool
  fits depth front = nat_le (count closes front) (depth + count opens front)

  abbrev whole : ℕ → List ℕ → Bool
  whole depth text = list_all (fits depth) (fronts text) && depth + count opens text == count closes text

  abbrev fits_as : ℕ → Bool → Bool → List ℕ → Bool
  fits_as depth b c front = nat_le (grown c (count closes front)) (depth + grown b (count opens front))

  abbrev whole_as : ℕ → Bool → Bool → List ℕ → Bool
  whole_as depth b c rest = list_all (fits_as depth b c) (fronts rest) && depth + grown b (count opens rest) == grown c (count closes rest)

  -- a text with one byte more in front, by what that byte is
  one_more : (depth byte : ℕ) (rest : List ℕ) (b c : Bool) → (byte == opens) ≡ b → (byte == closes) ≡ c → whole depth (byte ∷ rest) ≡ whole_as depth b c rest
  unfolding fronts
  one_more depth byte rest b c eb ec =
      ap (λ t. (t && list_all (fits depth) (map (λ front. byte ∷ front) (fronts rest))) && depth + count opens (byte ∷ rest) == count closes (byte ∷ rest)) (le-leb 0 (depth + 0) (omega arith))
      ∙ ap (λ t. t && depth + count opens (byte ∷ rest) == count closes (byte ∷ rest))
      (list_all-map (fits depth) (λ front. byte ∷ front) (fronts rest)
      ∙ all_same (λ front. fits depth (byte ∷ front)) (fits_as depth b c) (λ front. ap (λ n. nat_le n (depth + count opens (byte ∷ front))) (c_more front) ∙ ap (λ n. nat_le (grown c (count closes front)) (depth + n)) (b_more front)) (fronts rest))
      ∙ ap (λ n. list_all (fits_as depth b c) (fronts rest) && depth + n == count closes (byte ∷ rest)) (b_more rest)
      ∙ ap (λ n. list_all (fits_as depth b c) (fronts rest) && depth + grown b (count opens rest) == n) (c_more rest)
    where
      b_more : (front : List ℕ) → count opens (byte ∷ front) ≡ grown b (count opens front)
      b_more front = longer (byte == opens) b byte (filter (λ other. other == opens) front) eb

      c_more : (front : List ℕ) → count closes (byte ∷ front) ≡ grown c (count closes front)
      c_more front = longer (byte == closes) c byte (filter (λ other. other == closes) front) ec

  opening : (depth : ℕ) (rest : List ℕ) → whole (depth + 1) rest ≡ whole_as depth true false rest
  unfolding grown
  opening depth rest =
      ap (λ t. t && depth + 1 + count opens rest == count closes rest)
      (all_same (fits (depth + 1)) (fits_as depth true false) (λ front. ap (nat_le (count closes front)) (moved (count opens front))) (fronts rest))
      ∙ ap (λ n. list_all (fits_as depth true false) (fronts rest) && n == count closes rest) (moved (count opens rest))
    where
      moved : (n : ℕ) → depth + 1 + n ≡ depth + suc n
      moved n = omega arith

  closing : (depth : ℕ) (rest : List ℕ) → whole depth rest ≡ whole_as (suc depth) false true rest
  unfolding grown
  closing depth rest =
      ap (λ t. t && depth + count opens rest == count closes rest)
      (all_same (fits depth) (fits_as (suc depth) false true)
      (λ front. sym (less_one (count closes front) (depth + count opens front)) ∙ ap (nat_le (suc (count closes front))) (moved (count opens front))) (fronts rest))
      ∙ ap (λ t. list_all (fits_as (suc depth) false true) (fronts rest) && t) (same_one (depth + count opens rest) (count closes rest) ∙ ap (λ n. n == suc (count closes rest)) (moved (count opens rest)))
    where
      moved : (n : ℕ) → suc (depth + n) ≡ suc depth + n
      moved n = omega arith

  lone : (rest : List ℕ) → false ≡ whole_as 0 false true rest
  unfolding grown
  lone rest = sym (ap (λ t. t && 0 + grown false (count opens rest) == grown true (count closes rest)) (fronts_begin (fits_as 0 false true) rest refl))

  other : (depth : ℕ) (rest : List ℕ) → whole depth rest ≡ whole_as depth false false rest
  unfolding grown
  other depth rest = refl

  closes_at : (depth : ℕ) (rest : List ℕ) → ((d : ℕ) → is_closed_from opens closes d rest ≡ whole d rest) → cond (depth == 0) false (is_closed_from opens closes (depth - 1) rest) ≡ whole_as depth false true rest
  closes_at zero rest so = lone rest
  closes_at (suc depth) rest so =
      let less : suc depth - 1 ≡ depth = omega arith in
      cond-false (suc depth == 0) false (is_closed_from opens closes (suc depth - 1) rest) (ne_eqb (suc depth) 0 (λ e. absurd (omega (arith, e)))) ∙ ap (λ d. is_closed_from opens closes d rest) less ∙ so depth ∙ closing depth rest

  by_byte : (depth byte : ℕ) (rest : List ℕ) → ((d : ℕ) → is_closed_from opens closes d rest ≡ whole d rest) → (b c : Bool) → (byte == opens) ≡ b → (byte == closes) ≡ c
      → cond (byte == opens) (is_closed_from opens closes (depth + 1) rest) (cond (byte == closes) (cond (depth == 0) false (is_closed_from opens closes (depth - 1) rest)) (is_closed_from opens closes depth rest)) ≡ whole_as depth b c rest
  by_byte depth byte rest so true true eb ec = absurd (differs (sym (eqb-true byte opens eb) ∙ eqb-true byte closes ec))
  by_byte depth byte rest so true false eb ec = cond-true _ _ _ eb ∙ so (depth + 1) ∙ opening depth rest
  by_byte depth byte rest so false true eb ec = cond-false _ _ _ eb ∙ cond-true _ _ _ ec ∙ closes_at depth rest so
  by_byte depth byte rest so false false eb ec = cond-false _ _ _ eb ∙ cond-false _ _ _ ec ∙ so depth ∙ other depth rest

  counted : (text : List ℕ) (depth : ℕ) → is_closed_from opens closes depth text ≡ whole depth text
  unfolding is_closed_from fronts
  counted [] depth = sym (ap (λ t. (t && true) && depth + 0 == 0) (le-leb 0 (depth + 0) (omega arith)) ∙ ap (λ n. n == 0) (no_more depth))
  counted (byte ∷ rest) depth =
      by_byte depth byte rest (counted rest) (byte == opens) (byte == closes) refl refl ∙ sym (one_more depth byte rest (byte == opens) (byte == closes) refl refl)

  -- the depth that begins at 0 tells whether the bytes are balanced
  pub by_depth : (text : List ℕ) → is_closed_from opens closes 0 text ≡ is_balanced opens closes text
  by_depth text =
      counted text 0
      ∙ ap (λ t. t && 0 + count opens text == count closes text)
      (all_same (fits 0) (λ front. nat_le (count closes front) (count opens front)) (λ front. ap (nat_le (count closes front)) (from_none (count opens front))) (fronts text))
      ∙ ap (λ n. list_all (λ front. nat_le (count closes front) (count opens front)) (fronts text) && n == count closes text) (from_none (count opens text))
