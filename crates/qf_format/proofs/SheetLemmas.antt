-- Bytes that are written one after the other.
use Rattle.std.proofs.Common.{◌≡◌, ℕ, ◌+◌, ◌/◌, ◌%◌, ◌^◌, ◌<◌, ◌≤◌, List, [], ◌∷◌, ◌++◌, sym, ap, ◌∙◌, append_assoc}
use Rattle.std.specs.Fmt.{decimal}
use Rattle.qf_format.specs.Sheets.{Sheet, with_more}
use Rattle.qf_format.proofs.Numbers.{decimal_more}

-- two pieces are one
pub more_more : (s p q : Sheet) (x y : List ℕ) → p ≡ with_more s x → q ≡ with_more p y → q ≡ with_more s (x ++ y)
more_more s p q x y e f = f ∙ ap (λ (t : Sheet). with_more t y) e ∙ ap (λ (b : List ℕ). record s { bytes = b }) (append_assoc s.bytes x y)

-- the front of a number's digits, and the last one
pub digits_more : (s p q : Sheet) (n : ℕ) → 10 ≤ n → n < 2 ^ 128 → p ≡ with_more s (decimal (n / 10)) → q ≡ with_more p ((48 + n % 10) ∷ []) → q ≡ with_more s (decimal n)
digits_more s p q n low high e f = more_more s p q (decimal (n / 10)) ((48 + n % 10) ∷ []) e f ∙ ap (λ (d : List ℕ). with_more s d) (sym (decimal_more n low high))
