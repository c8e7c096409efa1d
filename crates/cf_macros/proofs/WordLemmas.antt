-- Where a word in braces ends.
use Rattle.std.proofs.Common.{◌≡◌, ℕ, zero, suc, ◌+◌, ◌<◌, ◌≤◌, List, [], ◌∷◌, length, Bool, false, not, Option, None, Some, sym, ap, refl, ◌∙◌, arith}
use Rattle.std.specs.Prelude.{◌==◌}
use Rattle.std.specs.List.{position, prefix_len}
use Rattle.std.proofs.lemmas.Bool.{cond-true, cond-false, lt-ltb, le-ltb, false_from_ne_true}
use Rattle.bstr.specs.Find.{IsFirstByte, Passes, Nowhere, is_byte}

none-first : (text : List ℕ) → Nowhere (Passes (is_byte 125) text) 0 (length text) → prefix_len (λ x. not (x == 125)) text ≡ length text
none-first [] h = refl
none-first (b ∷ text) h =
    let other : (b == 125) ≡ false = false_from_ne_true (b == 125) (h 0 (omega arith) (omega arith)) in
    let one : 1 + length text ≡ suc (length text) = omega arith in
    cond-true _ _ _ (ap not other) ∙ ap (λ n. 1 + n) (none-first text (λ k low high. h (suc k) (omega arith) (omega arith))) ∙ one

some-first : (text : List ℕ) (place : ℕ) → place < length text → Passes (is_byte 125) text place → Nowhere (Passes (is_byte 125) text) 0 place → prefix_len (λ x. not (x == 125)) text ≡ place
some-first [] place within here before = absurd (omega arith)
some-first (b ∷ text) zero within here before = cond-false _ _ _ (ap not here)
some-first (b ∷ text) (suc place) within here before =
    let other : (b == 125) ≡ false = false_from_ne_true (b == 125) (before 0 (omega arith) (omega arith)) in
    let one : 1 + place ≡ suc place = omega arith in
    cond-true _ _ _ (ap not other) ∙ ap (λ n. 1 + n) (some-first text place (omega arith) here (λ k low high. before (suc k) (omega arith) (omega arith))) ∙ one

-- a search for `}` finds where the word in braces ends
pub word_found : (text : List ℕ) (found : Option ℕ) → IsFirstByte (is_byte 125) text found → found ≡ position (λ other. other == 125) text
word_found text None h =
    let all = none-first text h in
    let past : length text ≤ prefix_len (λ x. not (x == 125)) text = omega (arith, all) in
    sym (cond-false _ _ _ (le-ltb _ _ past))
word_found text (Some place) h =
    let there = some-first text place h.0.high h.1 h.0.before in
    let within : prefix_len (λ x. not (x == 125)) text < length text = omega (arith, there, h.0.high) in
    sym (cond-true _ _ _ (lt-ltb _ _ within) ∙ ap Some there)
