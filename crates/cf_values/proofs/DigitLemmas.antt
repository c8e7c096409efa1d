-- Digits, and the numbers that they write.
use Rattle.std.proofs.Common.{◌≡◌, ℕ, ◌+◌, ◌-◌, ◌*◌, ◌^◌, List, [], ◌∷◌, ◌++◌, length, ap, ◌∙◌, arith, add-one}
use Rattle.std.specs.Prelude.{All}
use Rattle.std.proofs.Math.Nat.{pow-suc}
use Rattle.std.proofs.lemmas.List.{length-append}
use Rattle.std.proofs.lemmas.List.Elements.{All-head, All-tail}
use Rattle.cf_values.specs.Numbers.{IsDigit, value}

length-push : (digits : List ℕ) (byte : ℕ) → length (digits ++ byte ∷ []) ≡ length digits + 1
length-push digits byte = length-append digits (byte ∷ [])

-- one digit more
pub value-push : (digits : List ℕ) (byte : ℕ) → value (digits ++ byte ∷ []) ≡ value digits * 10 + (byte - 48)
value-push [] byte = grind arith
value-push (d ∷ digits) byte =
    let q = pow-suc 10 (length digits) in
    let p : 10 ^ length (digits ++ byte ∷ []) ≡ 10 ^ length digits * 10 = ap (λ k. 10 ^ k) (length-push digits byte ∙ add-one (length digits)) ∙ q in
    let h = value-push digits byte in
    ap (λ x. (d - 48) * x + value (digits ++ byte ∷ [])) p ∙ ap (λ x. (d - 48) * (10 ^ length digits * 10) + x) h ∙ grind arith

-- the byte behind a front of digits is one, where all are
pub digit_behind : (front rest : List ℕ) (byte : ℕ) → All IsDigit (front ++ byte ∷ rest) → IsDigit byte
digit_behind [] rest byte all = All-head IsDigit byte rest all
digit_behind (d ∷ front) rest byte all = digit_behind front rest byte (All-tail IsDigit d (front ++ byte ∷ rest) all)

-- the byte `0` is a digit
pub zero_digit : IsDigit 48
zero_digit = (omega arith, omega arith)

-- a text with a byte at its end isn't empty
pub push_some : (front : List ℕ) (byte : ℕ) → front ++ byte ∷ [] ≡ [] → ⊥
push_some [] byte e = cc
push_some (d ∷ front) byte e = cc
