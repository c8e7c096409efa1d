-- Numbers below 0, and ids.
use Rattle.std.proofs.Common.{◌≡◌, ℕ, zero, suc, ◌-◌, ◌+◌, ◌/◌, ◌%◌, ◌^◌, ◌<◌, ◌≤◌, Bool, true, false, List, [], ◌∷◌, Option, Some, None, Result, Ok, length, get_or, take, drop, refl, sym, ap, subst, ◌∙◌, arith, length-append, inl, inr, ℤ, pos, negsuc}
use Rattle.std.specs.Prelude.{◌⊎◌, FitsSigned, IsTrue, MatchOption, nat_eq}
use Rattle.std.specs.Cmp.Lexicographic.{pointwise, told_text}
use Rattle.std.proofs.lemmas.List.{take_rest}
use Rattle.std.specs.Int.{w128}
use Rattle.std.specs.Fmt.{decimal, signed_decimal}
use Rattle.std.specs.Result.{result_ok}
use Rattle.std.specs.Str.{IsUtf8}
use Rattle.std.specs.Str.Parse.{AllDigits, ParsesUnsigned, digits_value}
use Rattle.std.proofs.lemmas.Fmt.{IsAscii-from_digits}
use Rattle.std.proofs.lemmas.Int.{ints}
use Rattle.std.proofs.lemmas.Int.Digits.{digits_push, digits_value_push}
use Rattle.std.proofs.lemmas.Str.{IsUtf8-from_ascii, digit_value_digit}
use Rattle.std.proofs.lemmas.Str.Parse.{parse_gives, numerals_by_value, tells_digits}
use Rattle.std.proofs.Math.Nat.{pow-suc}
use Rattle.mail_base.specs.Limits.{IsId}
use Rattle.mail_base.specs.Names.{digits}
use Rattle.qf_format.specs.inner.Reading.{Whole, NoWhole, Spells}
use Rattle.qf_format.proofs.Numbers.{first_digit}

-- what a call says of the number below 0 of a magnitude
abbrev pub IsNegative : ℕ → Option ℤ → Type 0
IsNegative n r = MatchOption r ((n ≡ 0) ⊎ (2 ^ 127 < n)) (λ z. (0 < n) × (n ≤ 2 ^ 127) × (z ≡ negsuc (n - 1)))

no_minus : (digits : List ℕ) (m : ℕ) → m < 2 ^ 128 → 45 ∷ digits ≡ decimal m → ⊥
no_minus digits m h e =
    let d = first_digit m h in
    let is : 45 ≡ get_or (decimal m) 0 0 = ap (λ (bs : List ℕ). get_or bs 0 0) e in
    omega arith

tail : (x y : List ℕ) → 45 ∷ x ≡ 45 ∷ y → x ≡ y
tail x y e = cc

below_only : (ds : List ℕ) (n : ℕ) → Whole decimal (λ n. n < 2 ^ 128) ds n → (y : ℤ) → FitsSigned w128 y → 45 ∷ ds ≡ signed_decimal y → (m : ℕ) × (y ≡ negsuc m) × (suc m ≡ n) × (m < 2 ^ 127)
below_only ds n w (pos m) h e = absurd (no_minus ds m (omega (arith, ints)) e)
below_only ds n w (negsuc m) h e = (m, refl, w.only (suc m) (omega (arith, ints)) (tail ds (decimal (suc m)) e), omega (arith, ints))

-- digits behind a minus are read as the number below 0 of that magnitude, if it fits i128
pub below_zero : (bytes ds : List ℕ) (n : ℕ) (r : Option ℤ) → bytes ≡ 45 ∷ ds → Whole decimal (λ n. n < 2 ^ 128) ds n → IsNegative n r → Spells signed_decimal (FitsSigned w128) bytes r
below_zero bytes ds n (Some z) e w h =
    let again : suc (n - 1) ≡ n = omega arith in
    subst (λ y. Whole signed_decimal (FitsSigned w128) bytes y) (sym h.2) (record {
      is_formed = record { sfits = omega (arith, ints, h.0, h.1) };
      is_spelled = e ∙ ap (λ (d : List ℕ). 45 ∷ d) (w.is_spelled ∙ ap decimal (sym again));
      only = λ y k f.
          let o = below_only ds n w y k (sym e ∙ f) in
          o.1 ∙ ap negsuc (omega (arith, o.2));
    })
below_zero bytes ds n None e w h = record {
  none = λ y k f.
      let o = below_only ds n w y k (sym e ∙ f) in
      elim h [ inl a ↦ omega (arith, o.2, a) | inr a ↦ omega (arith, o.2, o.3, a) ];
}

-- where no number stands behind a minus, the bytes spell no signed number
pub none_below : (bytes ds : List ℕ) → bytes ≡ 45 ∷ ds → NoWhole decimal (λ n. n < 2 ^ 128) ds → NoWhole signed_decimal (FitsSigned w128) bytes
none_below bytes ds e w = record { none = λ y k f. by_sign y k (sym e ∙ f) }
  where
    by_sign : (y : ℤ) → FitsSigned w128 y → 45 ∷ ds ≡ signed_decimal y → ⊥
    by_sign (pos m) k f = no_minus ds m (omega (arith, ints)) f
    by_sign (negsuc m) k f = w.none (suc m) (omega (arith, ints)) (tail ds (decimal (suc m)) f)

-- ---- ids

-- k digits are the text of a number
pub record AreDigits (k n : ℕ) : Type 0 where
  pub each : AllDigits 10 (digits k n)
  pub value : digits_value 10 (digits k n) ≡ n
  pub len : length (digits k n) ≡ k

-- k digits of a number below 10 ^ k are its k digits: each is a digit, and their value is the
-- number
pub are_digits : (k n : ℕ) → n < 10 ^ k → AreDigits k n
unfolding digits
are_digits zero n h = record { each = tt; value = omega arith; len = refl }
are_digits (suc k) n h =
    let more = are_digits k (n / 10) (omega (arith, pow-suc 10 k)) in
    let d : ℕ = 48 + n % 10 in
    let dv = digit_value_digit d (omega arith, omega arith) in
    record {
      each = digits_push 10 (digits k (n / 10)) d more.each (omega (arith, dv));
      value = digits_value_push 10 (digits k (n / 10)) d ∙ omega (arith, more.value, dv);
      len = length-append (digits k (n / 10)) (d ∷ []) ∙ omega (arith, more.len);
    }

-- a call that reads digits as a number reads an id's twelve digits as that id
pub id_parses : {E : Type 0} (text : List ℕ) (r : Result ℕ E) → ParsesUnsigned 64 10 text r → (n : ℕ) → IsId n → text ≡ digits 12 n → result_ok r ≡ Some n
id_parses {E} text r h n small e =
    let d = are_digits 12 n (omega arith) in
    let value : digits_value 10 text ≡ n = ap (digits_value 10) e ∙ d.value in
    let all : AllDigits 10 text = subst (AllDigits 10) (sym e) d.each in
    let len : 0 < length text = omega (arith, ap length e, d.len) in
    ap result_ok (parse_gives (numerals_by_value (AllDigits 10) tells_digits) {E = E} 64 text r h all len (omega (arith, value, small)) ∙ ap (λ (v : ℕ). Ok v) value)

-- an id's twelve digits are UTF-8
pub id_is_text : (text : List ℕ) (n : ℕ) → IsId n → text ≡ digits 12 n → IsUtf8 text
id_is_text text n small e =
    let d = are_digits 12 n (omega arith) in
    subst IsUtf8 (sym e) (IsUtf8-from_ascii (digits 12 n) (IsAscii-from_digits (digits 12 n) d.each))

-- a comparison of two texts byte by byte says whether they are equal
pub told : (xs ys : List ℕ) (r : Bool) → r ≡ pointwise nat_eq xs ys → (IsTrue r → xs ≡ ys) × (xs ≡ ys → IsTrue r)
told xs ys true h = (λ t. told_text xs ys true h, λ e. refl)
told xs ys false h = (λ t. absurd cc, λ e. absurd (told_text xs ys false h e))

-- a comparison with a name's bytes behind `qf` says whether the bytes are these
pub named : (name bytes rest : List ℕ) (r : Bool) → name ≡ 113 ∷ 102 ∷ rest → r ≡ pointwise nat_eq bytes (take (length name - 2) (drop 2 name)) → (IsTrue r → bytes ≡ rest) × (bytes ≡ rest → IsTrue r)
named name bytes rest r e h = told bytes rest r (h ∙ ap (pointwise nat_eq bytes) (take_rest name 2 ∙ ap (drop 2) e))
