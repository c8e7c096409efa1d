-- The bytes of a status: digits and dots, at most nine.
use Rattle.std.proofs.Common.{◌≡◌, ℕ, suc, ◌+◌, ◌≤◌, true, List, [], ◌∷◌, ◌++◌, length, get_or, take, drop, Option, Some, None, refl, sym, ap, subst, ◌∙◌, arith, length-take, length-drop, drop-cons, position}
use Rattle.std.specs.Prelude.{All, ◌==◌, ◌&&◌, nat_le, nat_lt}
use Rattle.std.specs.List.{list_all}
use Rattle.std.proofs.lemmas.Bool.{and_parts, leb-true, eqb-true}
use Rattle.std.proofs.lemmas.List.{take-append-drop}
use Rattle.std.proofs.lemmas.List.Elements.{All-nil, All-cons, All-append}
use Rattle.std.proofs.lemmas.List.Quantifiers.{position-Some}
use Rattle.mail_base.specs.Notes.{is_digit, is_group, are_groups, is_status}

-- a digit or a dot
pub record IsStatusByte (b : ℕ) : Type 0 where
  pub low : 46 ≤ b
  pub high : b ≤ 57

digit_in : (b : ℕ) → is_digit b ≡ true → IsStatusByte b
digit_in b h =
    let p = and_parts (nat_le 48 b) (nat_le b 57) h in
    let low = leb-true 48 b p.0 in
    let high = leb-true b 57 p.1 in
    record { low = omega arith; high = high }

digits_in : (bs : List ℕ) → list_all is_digit bs ≡ true → All IsStatusByte bs
digits_in [] h = All-nil IsStatusByte
digits_in (b ∷ bs) h =
    let p = and_parts (is_digit b) (list_all is_digit bs) h in
    All-cons IsStatusByte b bs (digit_in b p.0) (digits_in bs p.1)

-- a group has at most three of them
pub record AreFew (most : ℕ) (bs : List ℕ) : Type 0 where
  pub short : length bs ≤ most
  pub each : All IsStatusByte bs

group_in : (bs : List ℕ) → is_group bs ≡ true → AreFew 3 bs
group_in bs h =
    let p = and_parts (nat_lt 0 (length bs) && nat_le (length bs) 3) (list_all is_digit bs) h in
    let q = and_parts (nat_lt 0 (length bs)) (nat_le (length bs) 3) p.0 in
    record { short = leb-true (length bs) 3 q.1; each = digits_in bs p.1 }

groups_in : (at : Option ℕ) (bs : List ℕ) → position (λ b. b == 46) bs ≡ at → are_groups at bs ≡ true → AreFew 7 bs
groups_in None bs e h = absurd cc
groups_in (Some at) bs e h =
    let p = and_parts (is_group (take at bs)) (is_group (drop (at + 1) bs)) h in
    let found = position-Some (λ b. b == 46) bs at 0 e in
    let dot : get_or bs at 0 ≡ 46 = eqb-true (get_or bs at 0) 46 found.1 in
    let one = group_in (take at bs) p.0 in
    let two = group_in (drop (at + 1) bs) p.1 in
    let step : suc at ≡ at + 1 = omega arith in
    let middle : drop at bs ≡ 46 ∷ drop (at + 1) bs = drop-cons bs at 0 found.0 ∙ (λ i. dot i ∷ drop (step i) bs) in
    let whole : take at bs ++ 46 ∷ drop (at + 1) bs ≡ bs = ap (λ (r : List ℕ). take at bs ++ r) (sym middle) ∙ take-append-drop at bs in
    let each : All IsStatusByte (take at bs ++ 46 ∷ drop (at + 1) bs) = All-append IsStatusByte (take at bs) (46 ∷ drop (at + 1) bs) one.each (All-cons IsStatusByte 46 (drop (at + 1) bs) (record { low = omega arith; high = omega arith }) two.each) in
    record {
      short = omega (arith, one.short, two.short, found.0, length-take at bs, length-drop (at + 1) bs);
      each = subst (All IsStatusByte) whole each;
    }

-- a status has at most nine bytes, all digits or dots
pub status_in : (bs : List ℕ) → is_status bs ≡ true → AreFew 9 bs
status_in [] h = absurd cc
status_in (b ∷ []) h = absurd cc
status_in (b ∷ dot ∷ bs) h =
    let p = and_parts (is_digit b && dot == 46) (are_groups (position (λ c. c == 46) bs) bs) h in
    let q = and_parts (is_digit b) (dot == 46) p.0 in
    let is_dot : dot ≡ 46 = eqb-true dot 46 q.1 in
    let rest = groups_in (position (λ c. c == 46) bs) bs refl p.1 in
    record {
      short = omega (arith, rest.short);
      each = All-cons IsStatusByte b (dot ∷ bs) (digit_in b q.0) (All-cons IsStatusByte dot bs (record { low = omega arith; high = omega arith }) rest.each);
    }
