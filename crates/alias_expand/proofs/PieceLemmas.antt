-- What a text is cut into from its front.
use Rattle.std.proofs.Common.{◌≡◌, ℕ, suc, ◌+◌, ◌-◌, ◌<◌, ◌==◌, Bool, true, false, not, cond, List, [], ◌∷◌, ◌++◌, length, map, take, drop, Some, None, refl, sym, ap, ◌∙◌, arith}
use Rattle.std.specs.Prelude.{filter}
use Rattle.std.specs.List.{onto_first, position_or_len, slice_split, All}
use Rattle.std.proofs.lemmas.Bool.{false_from_ne_true}
use Rattle.std.proofs.lemmas.List.{get_or_default, take_rest}
use Rattle.std.proofs.lemmas.List.Splits.{slice_split_first, slice_split_none}
use Rattle.bstr.specs.Find.{IsFirstByte, is_byte}
use Rattle.mail_base.proofs.SearchLemmas.{byte_found, front_some}
use Rattle.mail_base.specs.Texts.{is_lf}
use Rattle.addr_tokens.specs.declared.place.Place.{Place}
use Rattle.addr_tokens.specs.declared.place.Separator.TheVariants.{Comma}
use Rattle.alias_expand.specs.Members.{written}
use Rattle.addr_tokens.specs.Separators.{after, length_to, outside, pieces_from, separates}
use Rattle.mail_base.specs.Whites.{stripped}
use Rattle.alias_expand.specs.inner.Pieces.{kept}

-- ---- physical lines

-- a text with an LF is the line before that and those behind it
pub first_line : (text : List ℕ) (k : ℕ) → IsFirstByte (is_byte 10) text (Some k)
    → slice_split is_lf text ≡ take k text ∷ slice_split is_lf (take (length text - (k + 1)) (drop (k + 1) text))
first_line text k found =
    let low : k < length text = found.0.high in
    let is : position_or_len (is_byte 10) text ≡ k = front_some (is_byte 10) (λ b. not (is_byte 10 b)) (byte_found 10) text k found in
    let split = slice_split_first (is_byte 10) text 0 (omega arith) in
    split ∙ ap (λ (n : ℕ). take n text ∷ slice_split (is_byte 10) (drop (n + 1) text)) is ∙ ap (λ (t : List ℕ). take k text ∷ slice_split (is_byte 10) t) (sym (take_rest text (k + 1)))

-- a text without LF is one line
pub last_line : (text : List ℕ) → IsFirstByte (is_byte 10) text None → slice_split is_lf text ≡ text ∷ []
last_line text none =
    let fails : All (λ (b : ℕ). is_byte 10 b ≡ false) text = λ k d lt. rw (get_or_default text k d 0 lt) (false_from_ne_true _ (none k (omega arith) lt)) in
    slice_split_none (is_byte 10) text fails

-- ---- members

-- where a comma separates, what stands before it is the first piece
pieces_first : (place : Place) (text : List ℕ) → length_to Comma place text < length text
    → pieces_from place text ≡ take (length_to Comma place text) text ∷ pieces_from outside (drop (suc (length_to Comma place text)) text)
pieces_first place [] lt = absurd (omega (arith, lt))
pieces_first place (b ∷ bs) lt =
    let n : ℕ = length_to Comma (after place b) bs in
    elim (separates Comma place b) as (λ t. cond t 0 (suc n) < length (b ∷ bs) → cond t ([] ∷ pieces_from outside bs) (onto_first b (pieces_from (after place b) bs)) ≡ take (cond t 0 (suc n)) (b ∷ bs) ∷ pieces_from outside (drop (suc (cond t 0 (suc n))) (b ∷ bs)))
    [ true ↦ λ l. refl | false ↦ λ l. ap (onto_first b) (pieces_first (after place b) bs (omega (arith, l))) ] lt

-- where none does, the text is one piece
pieces_one : (place : Place) (text : List ℕ) → length_to Comma place text ≡ length text → pieces_from place text ≡ text ∷ []
pieces_one place [] e = refl
pieces_one place (b ∷ bs) e =
    let n : ℕ = length_to Comma (after place b) bs in
    elim (separates Comma place b) as (λ t. cond t 0 (suc n) ≡ length (b ∷ bs) → cond t ([] ∷ pieces_from outside bs) (onto_first b (pieces_from (after place b) bs)) ≡ (b ∷ bs) ∷ [])
    [ true ↦ λ l. absurd (omega (arith, l)) | false ↦ λ l. ap (onto_first b) (pieces_one (after place b) bs (omega (arith, l))) ] e

abbrev some_piece : List ℕ → Bool
some_piece piece = not (length piece == 0)

-- a piece before others is kept where it isn't empty
kept_first : (piece : List ℕ) (more : List (List ℕ)) → filter some_piece (piece ∷ more) ≡ kept piece ++ filter some_piece more
kept_first piece more =
    elim (length piece == 0) as (λ t. cond (not t) (piece ∷ filter some_piece more) (filter some_piece more) ≡ cond t [] (piece ∷ []) ++ filter some_piece more)
    [ true ↦ refl | false ↦ refl ]

-- the members of a text of one piece
pub written_one : (text : List ℕ) (end : ℕ) → end ≡ length_to Comma outside text → end ≡ length text → written text ≡ kept (stripped text) ++ []
written_one text end is all = ap (λ (ps : List (List ℕ)). filter some_piece (map stripped ps)) (pieces_one outside text (sym is ∙ all)) ∙ kept_first (stripped text) []

-- the members of a text of several pieces
pub written_first : (text : List ℕ) (end : ℕ) → end ≡ length_to Comma outside text → end < length text
    → written text ≡ kept (stripped (take end text)) ++ written (take (length text - (end + 1)) (drop (end + 1) text))
written_first text end is lt =
    let low : length_to Comma outside text < length text = omega (arith, is, lt) in
    let at : suc (length_to Comma outside text) ≡ end + 1 = omega (arith, is) in
    let n : ℕ = length_to Comma outside text in
    ap (λ (ps : List (List ℕ)). filter some_piece (map stripped ps)) (pieces_first outside text low)
    ∙ kept_first (stripped (take n text)) (map stripped (pieces_from outside (drop (suc n) text)))
    ∙ ap (λ (k : ℕ). kept (stripped (take k text)) ++ written (drop (suc n) text)) (sym is)
    ∙ ap (λ (k : ℕ). kept (stripped (take end text)) ++ written (drop k text)) at
    ∙ ap (λ (t : List ℕ). kept (stripped (take end text)) ++ written t) (sym (take_rest text (end + 1)))
