-- The place of the first byte of a kind.
use Rattle.std.proofs.Common.{◌≡◌, ℕ, ◌+◌, ◌-◌, ◌<◌, List, length, take, drop, Option, Some, None, ◌∙◌, ap, cond, ltb, true, false, arith}
use Rattle.std.specs.Prelude.{position}
use Rattle.std.specs.List.{position_or_len}
use Rattle.std.proofs.lemmas.List.{take_rest}
use Rattle.std.proofs.lemmas.List.Sums.{position_or_len_is}
use Rattle.std.proofs.lemmas.Bool.{false_from_ne_true, cond-true, cond-false}
use Rattle.std.proofs.lemmas.Bool.Decides.{nat_tests}
use Rattle.bstr.specs.Find.{IsFirstByte, is_byte}

abbrev place_when : ℕ → ℕ → Option ℕ
place_when long k = cond (ltb k long) (Some k) None

-- the first such byte stands at its position
pub position_found : (byte : ℕ) (text : List ℕ) (k : ℕ) → IsFirstByte (is_byte byte) text (Some k) → position (is_byte byte) text ≡ Some k
position_found byte text k found =
    let low : k < length text = found.0.high in
    let is : position_or_len (is_byte byte) text ≡ k =
    position_or_len_is (is_byte byte) text k 0 (omega arith) (λ j lt. false_from_ne_true _ (found.0.before j (omega arith) lt)) (λ lt. found.1) in
    let within : ltb k (length text) ≡ true = grind (arith, nat_tests, low) in
    ap (place_when (length text)) is ∙ cond-true _ (Some k) None within

-- a text without such a byte has no position
pub position_none : (byte : ℕ) (text : List ℕ) → IsFirstByte (is_byte byte) text None → position (is_byte byte) text ≡ None
position_none byte text none =
    let is : position_or_len (is_byte byte) text ≡ length text =
    position_or_len_is (is_byte byte) text (length text) 0 (omega arith) (λ j lt. false_from_ne_true _ (none j (omega arith) lt)) (λ lt. absurd (omega arith)) in
    let past : ltb (length text) (length text) ≡ false = grind (arith, nat_tests) in
    ap (place_when (length text)) is ∙ cond-false _ (Some (length text)) None past

-- what stands behind a place, as a slice to the end
pub behind_place : (text : List ℕ) (place : ℕ) → take (length text - (place + 1)) (drop (place + 1) text) ≡ drop (place + 1) text
behind_place text place = take_rest text (place + 1)
