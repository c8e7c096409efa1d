-- Numbers of 64 bits, and the texts that write them.
use Rattle.std.proofs.Common.{◌≡◌, ◌≢◌, ℕ, zero, suc, ◌^◌, ◌<◌, ◌≤◌, ◌==◌, Bool, true, false, cond, nat_lt, List, [], ◌∷◌, Option, Some, None, Result, Ok, Err, length, drop, get_or, refl, sym, ap, subst, ◌∙◌, arith, rules}
use Rattle.std.specs.Prelude.{ℤ, pos, negsuc, neg_ℤ, FitsSigned, SomeIff, int_div, int_rem, nat_le}
use Rattle.std.specs.Int.{w64, cast_signed, cast_unsigned, CanDivide, IsNonZero}
use Rattle.std.specs.Ordering.{int_eq}
use Rattle.std.specs.Cmp.{signed_Decides}
use Rattle.std.proofs.lemmas.Int.{to_z-of_z}
use Rattle.std.specs.Result.{OkIff, result_ok}
use Rattle.std.specs.Str.{IsAscii, IsUtf8, all_ascii_digits}
use Rattle.std.specs.Str.Parse.{ParsesSigned}
use Rattle.std.proofs.lemmas.Bool.{cond-true, cond-false, eq-eqb, eqb-true, ltb-true, leb-true, false≢true}
use Rattle.std.proofs.lemmas.Bool.Decides.{nat_tests}
use Rattle.std.proofs.lemmas.Str.{IsUtf8-from_ascii}
use Rattle.std.proofs.lemmas.Fmt.{IsAscii-from_digits}
use Rattle.std.proofs.lemmas.Str.Parse.{IsNumeralModel, numerals_by_fold, tells_all_ascii_digits, parse_signed_minus, parse_signed_plain}
use Rattle.map_tables.specs.Marks.{begins_with}
use Rattle.map_tables.specs.Arithmetic.{number_from, natural, from_zero, below_zero, integer, fitting, divided}

lt_true : (m n : ℕ) → m < n → nat_lt m n ≡ true
lt_true m n h = grind (arith, nat_tests, h)

lt_false : (m n : ℕ) → (m < n → ⊥) → nat_lt m n ≡ false
lt_false m n h = by (nat_lt m n) refl
  where
    by : (b : Bool) → nat_lt m n ≡ b → nat_lt m n ≡ false
    by true e = absurd (h (ltb-true m n e))
    by false e = e

le_true : (m n : ℕ) → m ≤ n → nat_le m n ≡ true
le_true m n h = grind (arith, nat_tests, h)

le_false : (m n : ℕ) → (m ≤ n → ⊥) → nat_le m n ≡ false
le_false m n h = by (nat_le m n) refl
  where
    by : (b : Bool) → nat_le m n ≡ b → nat_le m n ≡ false
    by true e = absurd (h (leb-true m n e))
    by false e = e

-- what fits is a number, and what doesn't is none
pub fits_by : (r : Option ℤ) (z : ℤ) → SomeIff r (FitsSigned w64 z) z → r ≡ fitting z
fits_by None (pos n) past = sym (cond-false _ (Some (pos n)) None (lt_false n (2 ^ 63) (λ lt. past (record { sfits = lt }))))
fits_by None (negsuc n) past = sym (cond-false _ (Some (negsuc n)) None (lt_false n (2 ^ 63) (λ lt. past (record { sfits = lt }))))
fits_by (Some x) (pos n) h = ap Some h.1 ∙ sym (cond-true _ (Some (pos n)) None (lt_true n (2 ^ 63) h.0.sfits))
fits_by (Some x) (negsuc n) h = ap Some h.1 ∙ sym (cond-true _ (Some (negsuc n)) None (lt_true n (2 ^ 63) h.0.sfits))

-- std's digits and the number that they write
own : IsNumeralModel (λ digits. all_ascii_digits digits ≡ true) (number_from 0)
unfolding number_from
own = numerals_by_fold _ tells_all_ascii_digits number_from (search rules)

module _ (text : List ℕ) where
  natural_is : all_ascii_digits text ≡ true → 0 < length text → natural text ≡ Some (number_from 0 text)
  natural_is = go text
    where
      go : (t : List ℕ) → all_ascii_digits t ≡ true → 0 < length t → natural t ≡ Some (number_from 0 t)
      go [] all some = absurd (omega (arith, some))
      go (digit ∷ rest) all some = cond-true _ (Some (number_from 0 (digit ∷ rest))) None all

-- a test of a number that isn't met leaves none
unmet : (t : List ℕ) (read : Option ℕ → Option ℤ) → read None ≡ None → (all_ascii_digits t ≡ true → 0 < length t → read (Some (number_from 0 t)) ≡ None) → read (natural t) ≡ None
unmet [] read none h = none
unmet (digit ∷ rest) read none h = by (all_ascii_digits (digit ∷ rest)) refl
  where
    by : (b : Bool) → all_ascii_digits (digit ∷ rest) ≡ b → read (cond (all_ascii_digits (digit ∷ rest)) (Some (number_from 0 (digit ∷ rest))) None) ≡ None
    by true e = ap (λ b. read (cond b (Some (number_from 0 (digit ∷ rest))) None)) e ∙ h e (omega arith)
    by false e = ap (λ b. read (cond b (Some (number_from 0 (digit ∷ rest))) None)) e ∙ none

-- an answer of `parse` is a number, or none
ok_is : {E : Type 0} (r : Result ℤ E) (Q : Type 0) (x : ℤ) (o : Option ℤ) → OkIff r Q x → (Q → o ≡ Some x) → (¬ Q → o ≡ None) → result_ok r ≡ o
ok_is (Ok y) Q x o h met none = ap Some h.1 ∙ sym (met h.0)
ok_is (Err e) Q x o h met none = sym (none h)

module _ {E : Type 0} (r : Result ℤ E) where
  plain_is : (t : List ℕ) → ParsesSigned w64 10 t r → get_or t 0 0 ≢ 43 → get_or t 0 0 ≢ 45 → result_ok r ≡ from_zero (natural t)
  plain_is t h plus minus =
      ok_is r _ (pos (number_from 0 t)) (from_zero (natural t)) (parse_signed_plain own w64 t r h plus minus)
      (λ q. ap from_zero (natural_is t q.0 q.1) ∙ cond-true _ (Some (pos (number_from 0 t))) None (lt_true (number_from 0 t) (2 ^ 63) q.2))
      (λ n. unmet t from_zero refl (λ all some. cond-false _ (Some (pos (number_from 0 t))) None (lt_false (number_from 0 t) (2 ^ 63) (λ lt. n (all, some, lt)))))

  minus_is : (t : List ℕ) → ParsesSigned w64 10 t r → get_or t 0 0 ≡ 45 → result_ok r ≡ below_zero (natural (drop 1 t))
  minus_is t h minus =
      let digits = drop 1 t in
      ok_is r _ (neg_ℤ (pos (number_from 0 digits))) (below_zero (natural digits)) (parse_signed_minus own w64 t r h minus)
      (λ q. ap below_zero (natural_is digits q.0 q.1) ∙ cond-true _ (Some (neg_ℤ (pos (number_from 0 digits)))) None (le_true (number_from 0 digits) (2 ^ 63) q.2))
      (λ n. unmet digits below_zero refl (λ all some. cond-false _ (Some (neg_ℤ (pos (number_from 0 digits)))) None (le_false (number_from 0 digits) (2 ^ 63) (λ le. n (all, some, le)))))

not_first : (byte : ℕ) (t : List ℕ) → byte ≢ 0 → begins_with byte t ≡ false → get_or t 0 0 ≢ byte
not_first byte [] some e is = some (sym is)
not_first byte (b ∷ t) some e is = false≢true (sym e ∙ ap (λ x. x == byte) is ∙ eq-eqb byte byte refl)

is_first : (byte : ℕ) (t : List ℕ) → begins_with byte t ≡ true → get_or t 0 0 ≡ byte
is_first byte [] e = absurd (false≢true e)
is_first byte (b ∷ t) e = eqb-true b byte e

-- a text without a plus sign is read as std's `parse` reads it
pub parsed : {E : Type 0} (t : List ℕ) (r : Result ℤ E) → begins_with 43 t ≡ false → ParsesSigned w64 10 t r → result_ok r ≡ integer t
parsed {E} t r plus h = by (begins_with 45 t) refl
  where
    by : (b : Bool) → begins_with 45 t ≡ b → result_ok r ≡ cond b (below_zero (natural (drop 1 t))) (from_zero (natural t))
    by true e = minus_is {E = E} r t h (is_first 45 t e)
    by false e = plain_is {E = E} r t h (not_first 43 t (λ z. absurd (omega (arith, z))) plus) (not_first 45 t (λ z. absurd (omega (arith, z))) e)

-- no text with a plus sign is a number
pub plus_none : (t : List ℕ) → begins_with 43 t ≡ true → None ≡ integer t
plus_none [] e = refl
plus_none (b ∷ t) e = subst (λ x. None ≡ integer (x ∷ t)) (sym (eqb-true b 43 e)) refl

ascii_more : (b : ℕ) (t : List ℕ) → b < 128 → IsAscii t → IsAscii (b ∷ t)
ascii_more b t low h zero = low
ascii_more b t low h (suc i) = h i

-- no text that isn't UTF-8 is a number
pub no_text : (t : List ℕ) → ¬ IsUtf8 t → None ≡ integer t
no_text [] h = refl
no_text (b ∷ t) h = by (b == 45) refl
  where
    by : (s : Bool) → (b == 45) ≡ s → None ≡ cond s (below_zero (natural t)) (from_zero (natural (b ∷ t)))
    by true e = sym (unmet t below_zero refl (λ all some. absurd (h (IsUtf8-from_ascii (b ∷ t) (ascii_more b t (omega (arith, eqb-true b 45 e)) (IsAscii-from_digits t (own.to t all)))))))
    by false e = sym (unmet (b ∷ t) from_zero refl (λ all some. absurd (h (IsUtf8-from_ascii (b ∷ t) (IsAscii-from_digits (b ∷ t) (own.to (b ∷ t) all))))))

-- a divisor of 0 gives none
pub zero_none : (z : ℤ) (o : Option ℤ) → FitsSigned w64 z → cast_unsigned w64 z ≡ 0 → None ≡ divided z o
zero_none (pos n) o fits e = subst (λ (m : ℕ). None ≡ divided (pos m) o) (sym e) refl
zero_none (negsuc n) o fits e = absurd (omega (arith, e, fits.sfits))

-- another gives what it gives
by_other : (z : ℤ) (o : Option ℤ) → (cast_unsigned w64 z ≡ 0 → ⊥) → divided z o ≡ o
by_other z o some = cond-false _ None o (by (int_eq z (pos 0)) refl)
  where
    by : (b : Bool) → int_eq z (pos 0) ≡ b → int_eq z (pos 0) ≡ false
    by true e = absurd (some (ap (cast_unsigned w64) ((signed_Decides z (pos 0)).0 e)))
    by false e = e

some_if : (r : Option ℤ) (P Q : Type 0) (z : ℤ) → P → SomeIff r (P × Q) z → SomeIff r Q z
some_if None P Q z p h = λ q. h (p, q)
some_if (Some x) P Q z p h = (h.0.1, h.1)

module _ (left right : ℤ) (one : FitsSigned w64 left) (other : FitsSigned w64 right) (some : cast_unsigned w64 right ≡ 0 → ⊥) where
  left_is : cast_signed w64 (cast_unsigned w64 left) ≡ left
  left_is = to_z-of_z w64 left one

  right_is : cast_signed w64 (cast_unsigned w64 right) ≡ right
  right_is = to_z-of_z w64 right other

  -- the answer of `checked_div`
  pub quotient_is : (r : Option ℤ)
      → SomeIff r (CanDivide w64 (cast_signed w64 (cast_unsigned w64 left)) (cast_signed w64 (cast_unsigned w64 right))) (int_div (cast_signed w64 (cast_unsigned w64 left)) (cast_signed w64 (cast_unsigned w64 right)))
      → r ≡ divided right (fitting (int_div left right))
  quotient_is r h =
      let first = subst (λ (x : ℤ). SomeIff r (CanDivide w64 x (cast_signed w64 (cast_unsigned w64 right))) (int_div x (cast_signed w64 (cast_unsigned w64 right)))) left_is h in
      let both = subst (λ (y : ℤ). SomeIff r (CanDivide w64 left y) (int_div left y)) right_is first in
      fits_by r (int_div left right) (some_if r (IsNonZero w64 right) (FitsSigned w64 (int_div left right)) (int_div left right) (omega (arith, some)) both)
      ∙ sym (by_other right (fitting (int_div left right)) some)

  -- the answer of `wrapping_rem`
  pub remainder_is : (r : ℤ) → FitsSigned w64 r → r ≡ int_rem (cast_signed w64 (cast_unsigned w64 left)) (cast_signed w64 (cast_unsigned w64 right))
      → Some (cast_signed w64 (cast_unsigned w64 r)) ≡ divided right (Some (int_rem left right))
  remainder_is r fits is =
      ap (λ (x : ℤ). Some x) (to_z-of_z w64 r fits ∙ is ∙ ap (λ (x : ℤ). int_rem x (cast_signed w64 (cast_unsigned w64 right))) left_is ∙ ap (int_rem left) right_is)
      ∙ sym (by_other right (Some (int_rem left right)) some)
