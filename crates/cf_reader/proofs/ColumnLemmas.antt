-- Columns of K lines.
use Rattle.std.proofs.Common.{◌≡◌, ◌↔◌, ℕ, ◌≤◌, Bool, true, false, cond, not, ltb, List, Option, Some, None, Result, Ok, Err, refl, sym, ap, ◌∙◌, arith}
use Rattle.std.specs.Prelude.{unwrap_or}
use Rattle.std.proofs.lemmas.Bool.{ltb-true}
use Rattle.std.proofs.lemmas.Bool.Decides.{nat_tests}
use Rattle.cf_values.specs.Numbers.{IsNumber, number_value}
use Rattle.cf_reader.specs.declared.fault.Fault.{Fault}
use Rattle.cf_reader.specs.declared.fault.Fault.TheVariants.{BadMap}
use Rattle.cf_reader.specs.MapLines.{is_column}

-- what a number is computed to be is what it means
abbrev Computes : Type 0
Computes = (text : List ℕ) (n : ℕ) → (number_value text ≡ Some n) ↔ IsNumber text n

abbrev fault_by : Option ℕ → Option Fault
fault_by number = cond (not (is_column number)) (Some BadMap) None

below : (n : ℕ) → n ≤ 99 → ltb n 100 ≡ true
below n le = grind (arith, nat_tests, le)

-- a number below 100 is a column
pub column_read : (law : Computes) (value : List ℕ) (n : ℕ) → IsNumber value n → n ≤ 99 → (fault_by (number_value value) ≡ None) × (n ≡ unwrap_or (number_value value) 0)
column_read law value n is le =
    let known = (law value n).1 is in
    (ap fault_by known ∙ ap (λ b. cond (not b) (Some BadMap) None) (below n le), sym (ap (λ o. unwrap_or o 0) known))

differ : {E : Type 0} (result : Result ℕ E) (error : E) (n : ℕ) → result ≡ Err error → result ≡ Ok n → ⊥
differ result error n err ok = cc

by_number : {E : Type 0} (value : List ℕ) (result : Result ℕ E) (error : E) → result ≡ Err error → ((n : ℕ) → number_value value ≡ Some n → n ≤ 99 → result ≡ Ok n)
    → (number : Option ℕ) → number_value value ≡ number → fault_by number ≡ Some BadMap
by_number value result error err gives None is = refl
by_number value result error err gives (Some n) is = by (ltb n 100) refl
  where
    by : (b : Bool) → ltb n 100 ≡ b → cond (not b) (Some BadMap) None ≡ Some BadMap
    by false past = refl
    by true within = absurd (differ result error n err (gives n is (let lt = ltb-true n 100 within in omega (arith, lt))))

-- what is refused is no column
pub column_refused : {E : Type 0} (law : Computes) (value : List ℕ) (result : Result ℕ E) (error : E) → result ≡ Err error → ((n : ℕ) → IsNumber value n → n ≤ 99 → result ≡ Ok n) → fault_by (number_value value) ≡ Some BadMap
column_refused law value result error err gives =
    by_number value result error err (λ n is le. gives n ((law value n).0 is) le) (number_value value) refl
