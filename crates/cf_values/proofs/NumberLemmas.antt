-- What is read of a number.
use Rattle.std.proofs.Common.{◌≡◌, ℕ, ◌+◌, ◌-◌, ◌*◌, ◌<◌, ◌≤◌, List, [], ◌∷◌, ◌++◌, length, take, get_or, min, refl, sym, ap, subst, ◌∙◌, arith, true, false, eqb, take_all}
use Rattle.std.specs.Prelude.{All}
use Rattle.std.proofs.lemmas.List.{append_assoc, take_more}
use Rattle.std.proofs.lemmas.Bool.{eqb-true, eq-eqb}
use Rattle.std.proofs.lemmas.List.Elements.{All-push}
use Rattle.cf_values.specs.Numbers.{IsDigit, value, IsNumber}
use Rattle.cf_values.specs.Refusals.{Begins, IsFirstBad, IsRefused, empty, above}
use Rattle.cf_values.proofs.DigitLemmas.{value-push, digit_behind, zero_digit, push_some}
use Rattle.cf_values.proofs.RefusalLemmas.{IsGrammar}

-- a text spells one number at most, and none if it is empty
pub numbers : IsGrammar IsNumber
numbers = record {
  one = λ text n m a b. a.number ∙ sym b.number;
  some = λ n a. a.numeral.some refl;
}

-- some number begins with digits
number_begins : (front : List ℕ) → All IsDigit front → Begins IsNumber front
number_begins front all = (
  48 ∷ [],
  value (front ++ 48 ∷ []),
  record {
    numeral = record { some = push_some front 48; digits = All-push IsDigit front 48 all zero_digit };
    number = refl;
  },
)

-- the first byte that is no digit is the first bad byte
pub bad_number : (text : List ℕ) (place b : ℕ) → place < length text → All IsDigit (take place text) → b ≡ get_or text place 0 → ¬ IsDigit b → IsFirstBad IsNumber text place
bad_number text place b within all at no_digit = record {
  within = within;
  before = number_begins (take place text) all;
  with_it = λ h.
      let cut : take (place + 1) text ++ h.0 ≡ take place text ++ b ∷ h.0 =
      ap (λ t. t ++ h.0) (take_more text place 0 within) ∙ ap (λ x. take place text ++ x ∷ [] ++ h.0) (sym at) ∙ append_assoc (take place text) (b ∷ []) h.0 in
      no_digit (digit_behind (take place text) h.0 b (subst (All IsDigit) cut h.2.numeral.digits));
}

-- a digit more of a number that is kept up to a cap
pub number_more : (text : List ℕ) (place b d cap number : ℕ) → place < length text → b ≡ get_or text place 0 → b ≡ 48 + d → number ≡ min cap (value (take place text))
    → min cap (number * 10 + d) ≡ min cap (value (take (place + 1) text))
number_more text place b d cap number within at is kept =
    let more : value (take (place + 1) text) ≡ value (take place text) * 10 + (b - 48) =
    ap value (take_more text place 0 within ∙ ap (λ x. take place text ++ x ∷ []) (sym at)) ∙ value-push (take place text) b in
    let n = value (take place text) in
    omega (arith, more, kept, is)

-- a digit more is a digit
pub digits_more : (text : List ℕ) (place b : ℕ) → place < length text → b ≡ get_or text place 0 → All IsDigit (take place text) → IsDigit b → All IsDigit (take (place + 1) text)
digits_more text place b within at all digit = subst (All IsDigit) (sym (take_more text place 0 within ∙ ap (λ x. take place text ++ x ∷ []) (sym at))) (All-push IsDigit (take place text) b all digit)

-- a text of digits whose number is above the most is refused at its length
pub number_above : (text : List ℕ) (place most number : ℕ) → length text ≤ place → All IsDigit (take place text) → number ≡ min (most + 1) (value (take place text)) → number ≡ most + 1 → IsRefused IsNumber most text (length text)
number_above [] place most number le all kept past = empty refl refl
number_above (d ∷ ds) place most number le all kept past =
    let text = d ∷ ds in
    let whole : take place text ≡ text = take_all place text le in
    let more : most < value (take place text) = omega arith in
    above (value text) (record { numeral = record { some = λ e. cc; digits = subst (All IsDigit) whole all }; number = refl }) (subst (λ t. most < value t) whole more) refl

-- an empty text is refused at its length
pub refused_empty : (M : List ℕ → ℕ → Type 0) (most : ℕ) (text : List ℕ) → true ≡ eqb (length text) 0 → IsRefused M most text (length text)
refused_empty M most [] e = empty refl refl
refused_empty M most (b ∷ bs) e = let l = eqb-true (length (b ∷ bs)) 0 (sym e) in absurd (omega arith)

-- a text that isn't empty
pub some_text : (text : List ℕ) → false ≡ eqb (length text) 0 → text ≡ [] → ⊥
some_text text e none = let h = eq-eqb (length text) 0 (ap length none) in cc
