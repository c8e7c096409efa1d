-- Texts that are put together piece by piece, and numbers of a date as unsigned ones.
use Rattle.std.proofs.Common.{◌≡◌, ℕ, ℤ, pos, List, ◌++◌, ◌*◌, ◌<◌, ◌≤◌, ◌+ℤ◌, ◌*ℤ◌, append_assoc, unsigned_abs, to_z, of_z, FitsSigned, w8, w64, ap, ◌∙◌, arith}
use Rattle.std.proofs.Math.Nat.{add-zero}
use Rattle.std.proofs.lemmas.Int.{to_z-of_z, to_z_pos}

-- three pieces, from the right
pub grouped : (a b c : List ℕ) → (a ++ b) ++ c ≡ a ++ (b ++ c)
grouped a b c = append_assoc a b c

-- one piece more
pub more : (a x b y c : List ℕ) → b ≡ a ++ x → c ≡ b ++ y → c ≡ a ++ (x ++ y)
more a x b y c e f = f ∙ ap (λ t. t ++ y) e ∙ append_assoc a x y

-- a number of a byte that isn't negative
pub unsigned_byte : (z : ℤ) (n r : ℕ) → FitsSigned w8 z → z ≡ pos n → r ≡ unsigned_abs (to_z w8 (of_z w8 z)) → r ≡ n
unsigned_byte z n r f e u = u ∙ ap unsigned_abs (to_z-of_z w8 z f ∙ e)

-- the nanoseconds of so many seconds at no offset
pub moment_nanos : (s : ℕ) (z n : ℤ) → s ≤ 32_503_680_000 → z ≡ to_z w64 s *ℤ pos 1_000_000_000 → n ≡ z +ℤ pos 0 → n ≡ pos (s * 1_000_000_000)
moment_nanos s z n l p q =
    let f : s < 9_223_372_036_854_775_808 = omega arith in
    q ∙ ap (λ x. x +ℤ pos 0) (p ∙ ap (λ x. x *ℤ pos 1_000_000_000) (to_z_pos w64 s f)) ∙ ap pos (add-zero (s * 1_000_000_000))
