-- Lines from the front of a text.
use Rattle.std.proofs.Common.{◌≡◌, ℕ, ◌+◌, ◌<◌, List, [], ◌∷◌, length, take, drop, Some, None, false, refl, sym, ◌∙◌, ap, subst, arith}
use Rattle.std.specs.List.{slice_split, position_or_len, before_first, All}
use Rattle.std.specs.Str.Lines.{lines, lines_of_parts, strip_carriage_return}
use Rattle.std.proofs.lemmas.List.Splits.{slice_split_first, slice_split_none, length-slice_split}
use Rattle.std.proofs.lemmas.List.Sums.{position_or_len_is}
use Rattle.std.proofs.lemmas.List.{get_or_default, take_all}
use Rattle.std.proofs.lemmas.Bool.{false_from_ne_true, cond-false, ne_eqb}
use Rattle.bstr.specs.Find.{IsFirstByte, is_byte}

-- a list of so many items and one more has a first one
pub nonempty : (ps : List (List ℕ)) (n : ℕ) → length ps ≡ n + 1 → (first : List ℕ) × (more : List (List ℕ)) × (ps ≡ first ∷ more)
nonempty [] n e = absurd (omega (arith, e))
nonempty (p ∷ ps) n e = (p, ps, refl)

-- a first part before others is a line without its return
pub parts_first : (x : List ℕ) (rest : List ℕ) → lines_of_parts (x ∷ slice_split (is_byte 10) rest) ≡ strip_carriage_return x ∷ lines_of_parts (slice_split (is_byte 10) rest)
parts_first x rest =
    let some = nonempty (slice_split (is_byte 10) rest) _ (length-slice_split (is_byte 10) rest) in
    subst (λ (q : List (List ℕ)). lines_of_parts (x ∷ q) ≡ strip_carriage_return x ∷ lines_of_parts q) (sym some.2) refl

-- the first byte of a kind stands where the list before it ends
first_place : (byte : ℕ) (text : List ℕ) (k : ℕ) → IsFirstByte (is_byte byte) text (Some k) → position_or_len (is_byte byte) text ≡ k
first_place byte text k found =
    let low : k < length text = found.0.high in
    position_or_len_is (is_byte byte) text k 0 (omega arith) (λ j lt. false_from_ne_true _ (found.0.before j (omega arith) lt)) (λ lt. found.1)

-- the line before the first LF, and the lines after it
pub lines_first : (text : List ℕ) (k : ℕ) → IsFirstByte (is_byte 10) text (Some k) → lines text ≡ strip_carriage_return (take k text) ∷ lines (drop (k + 1) text)
lines_first text k found =
    let low : k < length text = found.0.high in
    let is = first_place 10 text k found in
    let split = slice_split_first (is_byte 10) text 0 (omega arith) in
    ap lines_of_parts (split ∙ ap (λ (n : ℕ). take n text ∷ slice_split (is_byte 10) (drop (n + 1) text)) is) ∙ parts_first (take k text) (drop (k + 1) text)

-- one part with bytes is one line
pub one_part : (text : List ℕ) → 0 < length text → lines_of_parts (text ∷ []) ≡ text ∷ []
one_part [] some = absurd (omega arith)
one_part (b ∷ bs) some = cond-false _ [] ((b ∷ bs) ∷ []) (ne_eqb (length (b ∷ bs)) 0 (λ e. absurd (omega (arith, e))))

-- a text without LF is one line
pub lines_last : (text : List ℕ) → 0 < length text → IsFirstByte (is_byte 10) text None → lines text ≡ text ∷ []
lines_last text some none =
    let fails : All (λ (b : ℕ). is_byte 10 b ≡ false) text = λ k d lt. rw (get_or_default text k d 0 lt) (false_from_ne_true _ (none k (omega arith) lt)) in
    ap lines_of_parts (slice_split_none (is_byte 10) text fails) ∙ one_part text some

-- the bytes before the byte that a search found are those before the first such byte
pub before_found : (byte : ℕ) (text : List ℕ) (k : ℕ) → IsFirstByte (is_byte byte) text (Some k) → take k text ≡ before_first (is_byte byte) text
before_found byte text k found = ap (λ (n : ℕ). take n text) (sym (first_place byte text k found))

no_place : (byte : ℕ) (text : List ℕ) → IsFirstByte (is_byte byte) text None → position_or_len (is_byte byte) text ≡ length text
no_place byte text none = position_or_len_is (is_byte byte) text (length text) 0 (omega arith) (λ j lt. false_from_ne_true _ (none j (omega arith) lt)) (λ lt. absurd (omega arith))

-- where a search found no such byte, all bytes come before it
pub before_none : (byte : ℕ) (text : List ℕ) → IsFirstByte (is_byte byte) text None → text ≡ before_first (is_byte byte) text
before_none byte text none = sym (ap (λ (n : ℕ). take n text) (no_place byte text none) ∙ take_all (length text) text (omega arith))
