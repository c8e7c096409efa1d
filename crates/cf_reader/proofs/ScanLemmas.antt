-- What the code reads of lines is what their definition says.
use Rattle.std.proofs.Common.{◌≡◌, ◌∙◌, ℕ, suc, ◌+◌, arith, Bool, true, false, cond, not, ◌&&◌, ◌||◌, eqb, List, [], ◌∷◌, take, refl, sym, ap}
use Rattle.std.specs.Prelude.{map, filter, zip}
use Rattle.std.specs.List.{position_or_len, take_while}
use Rattle.cf_reader.specs.declared.logical.Logical.{Logical}
use Rattle.cf_reader.specs.LogicalLines.{Group, begins_comment, before_comment, grouped, is_heard, is_indented, is_silent, is_shield, joined, logical_lines, physical_lines, uncommented, whole}
use Rattle.cf_reader.specs.inner.Scans.{read_on, numbered_from}

-- ---- comments

one_more : (begins : Bool) (b : ℕ) (bs : List ℕ) (n : ℕ) → take (cond (not begins) (1 + n) 0) (b ∷ bs) ≡ cond begins [] (b ∷ take n bs)
one_more true b bs n = refl
one_more false b bs n = let more : 1 + n ≡ suc n = omega arith in ap (λ (k : ℕ). take k (b ∷ bs)) more

read_is : (last : ℕ) (text : List ℕ) → read_on last text ≡ take (position_or_len begins_comment (zip (last ∷ text) text)) text
read_is last [] = refl
read_is last (b ∷ bs) =
    ap (λ (t : List ℕ). cond (eqb b 35 && not (is_shield last)) [] (b ∷ t)) (read_is b bs)
    ∙ sym (one_more (eqb b 35 && not (is_shield last)) b bs (position_or_len begins_comment (zip (b ∷ bs) bs)))

-- what is read up to a comment is what stands before it
pub comment_cut : (text : List ℕ) → read_on 0 text ≡ before_comment text
comment_cut text = read_is 0 text

-- ---- lines

one_line : (number : ℕ) (line : List ℕ) (lines : List (List ℕ)) (rest : List Logical) (groups : List Group) → rest ≡ map whole (filter is_heard groups)
    → cond (is_indented line || is_silent line) rest (record { number = number; text = uncommented (joined line (take_while is_indented lines)) } ∷ rest)
    ≡ map whole (filter is_heard (cond (is_indented line) groups (record { number = number; line = line; indented = take_while is_indented lines } ∷ groups)))
one_line number line lines rest groups is = by (is_indented line) (is_silent line) refl
  where
    by : (i s : Bool) → is_silent line ≡ s
        → cond (i || s) rest (record { number = number; text = uncommented (joined line (take_while is_indented lines)) } ∷ rest)
        ≡ map whole (filter is_heard (cond i groups (record { number = number; line = line; indented = take_while is_indented lines } ∷ groups)))
    by true s e = is
    by false true e =
        is ∙ sym (ap (λ (b : Bool). map whole (cond (not b) (record { number = number; line = line; indented = take_while is_indented lines } ∷ filter is_heard groups) (filter is_heard groups))) e)
    by false false e =
        ap (λ (ls : List Logical). record { number = number; text = uncommented (joined line (take_while is_indented lines)) } ∷ ls) is
        ∙ sym (ap (λ (b : Bool). map whole (cond (not b) (record { number = number; line = line; indented = take_while is_indented lines } ∷ filter is_heard groups) (filter is_heard groups))) e)

numbered_is : (number : ℕ) (lines : List (List ℕ)) → numbered_from number lines ≡ map whole (filter is_heard (grouped number lines))
numbered_is number [] = refl
numbered_is number (line ∷ lines) = one_line number line lines (numbered_from (number + 1) lines) (grouped (number + 1) lines) (numbered_is (number + 1) lines)

-- lines that are read one after the other, with their numbers, are the logical lines of the text
pub lines_read : (text : List ℕ) → numbered_from 1 (physical_lines text) ≡ logical_lines text
lines_read text = numbered_is 1 (physical_lines text)
