-- What numbers and times that are read, or refused, are as computed values.
use Rattle.std.proofs.Common.{◌≡◌, ◌∙◌, ℕ, ◌^◌, ◌≤◌, Bool, true, false, List, Option, Some, None, cond, refl, sym, ap}
use Rattle.std.specs.Prelude.{Result, Ok, Err, nat_le}
use Rattle.std.proofs.lemmas.Bool.{cond-true, cond-false, le-leb, leb-true}
use Rattle.cf_values.specs.declared.bad.Bad.{Bad}
use Rattle.cf_values.specs.Numbers.{IsNumber, number_value}
use Rattle.cf_values.specs.Times.{IsTime, last_unit, time_value}
use Rattle.cf_values.proofs.ComputedLemmas.{number_computed, time_computed}
use Rattle.cf_reader.specs.Values.{at_most, number_in, time_in}

within : (most : ℕ) (o : Option ℕ) (n : ℕ) → o ≡ Some n → n ≤ most → at_most most o ≡ Some n
within most o n is le = ap (at_most most) is ∙ cond-true (nat_le n most) (Some n) None (le-leb n most le)

above : (most n : ℕ) (test : Bool) → nat_le n most ≡ test → (n ≤ most → ⊥) → cond (nat_le n most) (Some n) None ≡ None
above most n true is over = absurd (over (leb-true n most is))
above most n false is over = cond-false (nat_le n most) (Some n) None is

without : (most : ℕ) (o : Option ℕ) → ((n : ℕ) → o ≡ Some n → n ≤ most → ⊥) → at_most most o ≡ None
without most None over = refl
without most (Some n) over = above most n (nat_le n most) refl (over n refl)

-- no result is both
never : (result : Result ℕ Bad) (n : ℕ) (bad : Bad) → result ≡ Err bad → result ≡ Ok n → ⊥
never result n bad e f = cc

-- a text that spells a number within the limit is read as that number
pub number_read : (most : ℕ) (text : List ℕ) (n : ℕ) → IsNumber text n → n ≤ most → Some n ≡ number_in most text
number_read most text n is le = sym (within most (number_value text) n ((number_computed text n).1 is) le)

-- a refused text spells no number within the limit
pub number_refused : (most : ℕ) (text : List ℕ) (result : Result ℕ Bad) (bad : Bad) → result ≡ Err bad → ((n : ℕ) → IsNumber text n → n ≤ most → result ≡ Ok n) → None ≡ number_in most text
number_refused most text result bad e value = sym (without most (number_value text) (λ n is le. never result n bad e (value n ((number_computed text n).0 is) le)))

-- a text that spells a time within 2 ^ 60 seconds is read as that time
pub time_read : (unit : ℕ) (text : List ℕ) (n : ℕ) → IsTime (last_unit unit) text n → n ≤ 2 ^ 60 → Some n ≡ time_in unit text
time_read unit text n is le = sym (within (2 ^ 60) (time_value unit text) n ((time_computed unit text n).1 is) le)

-- a refused text spells no time within 2 ^ 60 seconds
pub time_refused : (unit : ℕ) (text : List ℕ) (result : Result ℕ Bad) (bad : Bad) → result ≡ Err bad → ((n : ℕ) → IsTime (last_unit unit) text n → n ≤ 2 ^ 60 → result ≡ Ok n) → None ≡ time_in unit text
time_refused unit text result bad e value = sym (without (2 ^ 60) (time_value unit text) (λ n is le. never result n bad e (value n ((time_computed unit text n).0 is) le)))
