-- The digits of numbers.
use Rattle.std.proofs.Common.{◌≡◌, ℕ, zero, suc, ◌-◌, ◌+◌, ◌*◌, ◌/◌, ◌%◌, ◌^◌, ◌<◌, ◌≤◌, List, [], ◌∷◌, ◌++◌, Result, Ok, Err, length, get_or, take, refl, sym, ap, subst, ◌∙◌, arith, length-append}
use Rattle.std.proofs.Math.ListN.{get_or-append}
use Rattle.std.specs.Fmt.{decimal}
use Rattle.std.proofs.lemmas.Fmt.{decimal_digit, decimal_step_wide, decimal_by_steps_wide, decimal_is_IsNumeral_wide}
use Rattle.std.proofs.lemmas.Str.Parse.{digit_at, digits_value-take-le}
use Rattle.std.proofs.lemmas.Str.{digit_value_digit}
use Rattle.std.proofs.lemmas.Int.Digits.{digits_value_more}
use Rattle.std.proofs.Math.Seq.{take-suc}
use Rattle.std.specs.Str.Parse.{AllDigits, IsNumeral, digits_value}
use Rattle.std.specs.Char.{digit_value}
use Rattle.qf_format.specs.inner.Parts.{IsPlain}
use Rattle.qf_format.specs.inner.Reading.{NoWhole, Spells}
use Rattle.std.specs.Str.{IsUtf8}
use Rattle.std.specs.Str.Parse.{ParsesUnsigned}
use Rattle.std.specs.Result.{result_ok}
use Rattle.std.proofs.Common.{inl, inr}
use Rattle.std.proofs.lemmas.Bool.{cases_lt}
use Rattle.std.proofs.lemmas.List.{take_all}
use Rattle.std.proofs.lemmas.Str.{IsUtf8-from_ascii}
use Rattle.std.proofs.lemmas.Fmt.{IsAscii-decimal_wide, parse-decimal_wide}
use Rattle.std.proofs.lemmas.Str.Parse.{parse_plain, numerals_by_value, tells_digits}

-- one digit
pub decimal_small : (n : ℕ) → n < 10 → decimal n ≡ (48 + n) ∷ []
decimal_small n h = decimal_digit n h

-- the last digit stands last
pub decimal_more : (n : ℕ) → 10 ≤ n → n < 2 ^ 128 → decimal n ≡ decimal (n / 10) ++ (48 + n % 10) ∷ []
decimal_more n low high = decimal_step_wide n low (omega arith)

-- a number from 10 on has one digit more than a tenth of it
pub length-decimal_more : (n : ℕ) → 10 ≤ n → n < 2 ^ 128 → length (decimal n) ≡ length (decimal (n / 10)) + 1
length-decimal_more n low high = ap length (decimal_more n low high) ∙ length-append (decimal (n / 10)) ((48 + n % 10) ∷ [])

-- ---- the first digit

-- how the text of a number begins
pub record Begins (n : ℕ) (ds : List ℕ) : Type 0 where
  pub some : 0 < length ds
  pub positive : 0 < n → 48 < get_or ds 0 0
  pub alone : n < 10 → length ds ≤ 1

begins_one : (n : ℕ) → n < 10 → Begins n ((48 + n) ∷ [])
begins_one n h = record { some = omega arith; positive = λ p. omega arith; alone = λ e. omega arith }

begins_more : (n : ℕ) (ds : List ℕ) → 10 ≤ n → Begins (n / 10) ds → Begins n (ds ++ (48 + n % 10) ∷ [])
begins_more n ds low b = record {
  some = omega (arith, length-append ds ((48 + n % 10) ∷ []), b.some);
  positive = λ p. rw (get_or-append ds ((48 + n % 10) ∷ []) 0 0 b.some) (b.positive (omega arith));
  alone = λ e. absurd (omega arith);
}

begins : (n : ℕ) → n < 2 ^ 128 → Begins n (decimal n)
begins n h = decimal_by_steps_wide Begins begins_one begins_more n (omega arith)

numeral : (n : ℕ) → n < 2 ^ 128 → IsNumeral 10 (decimal n) × (digits_value 10 (decimal n) ≡ n)
numeral n h = decimal_is_IsNumeral_wide n (omega arith)

-- the text of a number begins with a digit
pub first_digit : (n : ℕ) → n < 2 ^ 128 → (48 ≤ get_or (decimal n) 0 0) × (get_or (decimal n) 0 0 ≤ 57)
first_digit n h = digit_at (decimal n) 0 (numeral n h).0.1 (numeral n h).0.0

plain_decimal : (n : ℕ) → n < 2 ^ 128 → IsPlain (decimal n)
plain_decimal n h =
    let b = begins n h in
    let d = first_digit n h in (
      λ e. absurd (omega (arith, d.0, e)),
      λ e. elim (cases_lt 0 n) [
        | inl p ↦ absurd (omega (arith, b.positive p, e))
        | inr q ↦ b.alone (omega arith)
      ],
    )

-- ---- what is written of what was read

up : (ds : List ℕ) → AllDigits 10 ds → 48 < get_or ds 0 0 → digits_value 10 ds < 10 ^ 64 → (i : ℕ) → i < length ds → (0 < digits_value 10 (take (suc i) ds)) × (decimal (digits_value 10 (take (suc i) ds)) ≡ take (suc i) ds)
up ds all first small zero l =
    let d : ℕ = get_or ds 0 0 in
    let v : ℕ = digits_value 10 (take (suc zero) ds) in
    let range = digit_at ds 0 all l in
    let dv = digit_value_digit d range in
    let one : suc zero ≡ 0 + 1 = omega arith in
    let more : digits_value 10 (take (0 + 1) ds) ≡ 0 * 10 + digit_value d = digits_value_more 10 ds 0 l in
    let e : v ≡ digit_value d = ap (λ (k : ℕ). digits_value 10 (take k ds)) one ∙ more ∙ omega arith in
    let same : 48 + v ≡ d = omega arith in
    (omega arith, decimal_digit v (omega arith) ∙ ap (λ (x : ℕ). x ∷ []) same ∙ sym (take-suc ds 0 0 l))
up ds all first small (suc j) l =
    let i : ℕ = suc j in
    let d : ℕ = get_or ds i 0 in
    let w : ℕ = digits_value 10 (take i ds) in
    let v : ℕ = digits_value 10 (take (suc i) ds) in
    let before = up ds all first small j (omega arith) in
    let range = digit_at ds i all l in
    let dv = digit_value_digit d range in
    let one : suc i ≡ i + 1 = omega arith in
    let e : v ≡ w * 10 + digit_value d = ap (λ (k : ℕ). digits_value 10 (take k ds)) one ∙ digits_value_more 10 ds i l in
    let most : v ≤ digits_value 10 ds = digits_value-take-le 10 ds (suc i) (omega arith) in
    let q : v / 10 ≡ w = omega (arith, e, dv, range.0, range.1) in
    let r : 48 + v % 10 ≡ d = omega (arith, e, dv, range.0, range.1) in
    (omega (arith, e, before.0), decimal_step_wide v (omega (arith, e, before.0)) (omega (arith, most, small)) ∙ (λ t. decimal (q t) ++ r t ∷ []) ∙ ap (λ (x : List ℕ). x ++ d ∷ []) before.1 ∙ sym (take-suc ds i 0 l))

-- digits with no zero before others are what is written of their number
decimal_value : (ds : List ℕ) → IsNumeral 10 ds → IsPlain ds → digits_value 10 ds < 2 ^ 128 → decimal (digits_value 10 ds) ≡ ds
decimal_value ds num plain small = by_first (get_or ds 0 0) refl
  where
    l : 0 < length ds
    l = num.0

    whole : (k : ℕ) → k ≡ length ds → take k ds ≡ ds
    whole k e = take_all k ds (omega arith)

    last : suc (length ds - 1) ≡ length ds
    last = omega arith

    by_first : (d : ℕ) → get_or ds 0 0 ≡ d → decimal (digits_value 10 ds) ≡ ds
    by_first d e = elim (cases_lt 48 d) [
      | inl h ↦
          let u = up ds num.1 (omega arith) (omega arith) (length ds - 1) (omega arith) in
          ap (λ (x : List ℕ). decimal (digits_value 10 x)) (sym (whole _ last)) ∙ u.1 ∙ whole _ last
      | inr h ↦
          let range = digit_at ds 0 num.1 l in
          let dv = digit_value_digit (get_or ds 0 0) range in
          let is_zero : get_or ds 0 0 ≡ 48 = omega arith in
          let short = plain.1 is_zero in
          let alone : ds ≡ 48 ∷ [] = sym (whole 1 (omega arith)) ∙ take-suc ds 0 0 l ∙ ap (λ (x : ℕ). x ∷ []) is_zero in
          ap (λ (x : List ℕ). decimal (digits_value 10 x)) alone ∙ decimal_digit 0 (omega arith) ∙ sym alone
    ]

-- ---- reading

-- digits without a plus or a needless zero are read as the number whose text they are
pub reads_number : {E : Type 0} (bytes : List ℕ) (r : Result ℕ E) → IsPlain bytes → ParsesUnsigned 128 10 bytes r → Spells decimal (λ n. n < 2 ^ 128) bytes (result_ok r)
reads_number {E} bytes (Ok n) plain h =
    let g = parse_plain (numerals_by_value (AllDigits 10) tells_digits) {E = E} 128 bytes (Ok n) h plain.0 in
    let is : digits_value 10 bytes ≡ n = sym g.1 in
    record {
      is_formed = omega (arith, g.0.2, g.1);
      is_spelled = sym (decimal_value bytes (g.0.1, g.0.0) plain g.0.2) ∙ ap decimal is;
      only = λ y k e. sym (numeral y k).1 ∙ ap (digits_value 10) (sym e) ∙ is;
    }
reads_number {E} bytes (Err e) plain h = record { none = λ y k f. absurd (err_ok e y (parse-decimal_wide {E = E} 128 y bytes (Err e) k (omega arith) f h)) }
  where
    err_ok : {D : Type 0} (d : D) (y : ℕ) → Err d ≡ Ok y → ⊥
    err_ok d y p = cc

-- bytes with a plus or a needless zero in front are no number's text
pub no_plain : (bytes : List ℕ) → (IsPlain bytes → ⊥) → NoWhole decimal (λ n. n < 2 ^ 128) bytes
no_plain bytes h = record { none = λ y k e. h (subst IsPlain (sym e) (plain_decimal y k)) }

-- bytes that aren't UTF-8 are no number's text
pub no_text : (bytes : List ℕ) → (IsUtf8 bytes → ⊥) → NoWhole decimal (λ n. n < 2 ^ 128) bytes
no_text bytes h = record { none = λ y k e. h (subst IsUtf8 (sym e) (IsUtf8-from_ascii (decimal y) (IsAscii-decimal_wide y (omega arith)))) }
