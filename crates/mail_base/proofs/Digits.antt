-- The digits of a number.
use Rattle.std.proofs.Common.{◌≡◌, ℕ, zero, suc, ◌+◌, ◌-◌, ◌*◌, ◌/◌, ◌%◌, ◌<◌, ◌≤◌, List, [], ◌∷◌, ◌++◌, length, get_or, refl, sym, subst, ◌∙◌, arith, length-append}
use Rattle.std.specs.Prelude.{All}
use Rattle.std.proofs.lemmas.List.Elements.{All-nil, All-push, All-get_or}
use Rattle.mail_base.specs.Names.{digits}

-- no digits of any number
pub digits_none : (k n : ℕ) → k ≡ 0 → digits k n ≡ []
unfolding digits
digits_none k n h = rw h refl

-- the last digit stands last
pub digits_step : (k n : ℕ) → 0 < k → digits k n ≡ digits (k - 1) (n / 10) ++ (48 + n % 10) ∷ []
unfolding digits
digits_step zero n h = grind arith
digits_step (suc k) n h = let e : suc k - 1 ≡ k = omega arith in rw e refl

-- one more digit
pub digits_more : (k n d : ℕ) → d < 10 → digits (k + 1) (n * 10 + d) ≡ digits k n ++ (48 + d) ∷ []
digits_more k n d h =
    let q : (n * 10 + d) / 10 ≡ n = omega arith in
    let r : (n * 10 + d) % 10 ≡ d = omega arith in
    let s : k + 1 - 1 ≡ k = omega arith in
    let l : 0 < k + 1 = omega arith in
    digits_step (k + 1) (n * 10 + d) l ∙ (λ i. digits (s i) (q i) ++ (48 + r i) ∷ [])

-- there are as many digits as are asked for
pub length-digits : (k n : ℕ) → length (digits k n) ≡ k
unfolding digits
length-digits zero n = refl
length-digits (suc k) n = length-append (digits k (n / 10)) ((48 + n % 10) ∷ []) ∙ grind (arith, length-digits k (n / 10))

IsDigit : ℕ → Type 0
IsDigit d = (48 ≤ d) × (d ≤ 57)

-- each is a digit
digits_are_digits : (k n : ℕ) → All IsDigit (digits k n)
unfolding digits IsDigit
digits_are_digits zero n = All-nil IsDigit
digits_are_digits (suc k) n =
    let last : IsDigit (48 + n % 10) = (omega arith, omega arith) in
    All-push IsDigit (digits k (n / 10)) (48 + n % 10) (digits_are_digits k (n / 10)) last

-- each byte of the twelve digits of a number is a digit
pub in_digits : (xs : List ℕ) (i n : ℕ) → xs ≡ digits 12 n → i < 12 → (48 ≤ get_or xs i 0) × (get_or xs i 0 ≤ 57)
unfolding IsDigit
in_digits xs i n e h =
    let l : i < length (digits 12 n) = omega (arith, length-digits 12 n) in
    subst (λ (ys : List ℕ). IsDigit (get_or ys i 0)) (sym e) (All-get_or IsDigit (digits 12 n) i 0 l (digits_are_digits 12 n))
