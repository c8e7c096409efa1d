-- Words between blanks, one after the other.
use Rattle.std.proofs.Common.{◌≡◌, ℕ, zero, suc, ◌+◌, ◌<◌, ◌≤◌, Bool, true, false, not, List, [], ◌∷◌, ◌++◌, length, take, drop, Some, None, refl, sym, ap, subst, ◌∙◌, arith, ⊎_elim}
use Rattle.std.specs.Prelude.{filter}
use Rattle.std.specs.List.{list_any, list_all, prefix_len, slice_split}
use Rattle.std.proofs.lemmas.Bool.{cond-true, cond-false, cases_Bool, cases_lt, not_from_true, not_from_false, or_parts, or_from, and_parts, and_from, false≢true}
use Rattle.std.proofs.lemmas.List.{take_all, drop_all, drop-drop}
use Rattle.std.proofs.lemmas.List.Sums.{prefix_len-le-length, fails_before_first}
use Rattle.std.proofs.lemmas.List.Splits.{slice_split_first, slice_split_none}
use Rattle.mail_base.specs.Texts.{is_blank, without_blanks}
use Rattle.smtp_lines.specs.declared.parameter.Parameters.{Parameters}
use Rattle.smtp_lines.specs.Paths.{is_parted}
use Rattle.smtp_lines.specs.Parameters.{is_some_text, words_of}
use Rattle.smtp_lines.specs.Reading.{word_end, with_words, with_given, given_by}

-- ---- the words of a text

some_front : (n : ℕ) (text : List ℕ) → 0 < n → 0 < length text → is_some_text (take n text) ≡ true
some_front zero text some low = absurd (omega arith)
some_front (suc n) [] some low = absurd (omega arith)
some_front (suc n) (b ∷ text) some low = refl

words_some : (word text : List ℕ) (texts : List (List ℕ)) → slice_split is_blank text ≡ word ∷ texts → is_some_text word ≡ true → words_of text ≡ word ∷ filter is_some_text texts
words_some word text texts e some = ap (filter is_some_text) e ∙ cond-true _ _ _ some

words_step : (rest : List ℕ) (end : ℕ) → end ≡ word_end rest → 0 < end → words_of rest ≡ take end rest ∷ words_of (drop (end + 1) rest)
words_step rest end is some =
    let least = prefix_len-le-length (λ b. not (is_blank b)) rest in
    ⊎_elim
    (λ (less : word_end rest < length rest).
    let low : 0 < length rest = omega arith in
    subst (λ n. words_of rest ≡ take n rest ∷ words_of (drop (n + 1) rest)) (sym is)
    (words_some (take (word_end rest) rest) rest _ (slice_split_first is_blank rest 0 less) (some_front (word_end rest) rest (omega arith) low)))
    (λ (over : length rest ≤ word_end rest).
    let low : 0 < length rest = omega arith in
    let all : take end rest ≡ rest = take_all end rest (omega arith) in
    let none : drop (end + 1) rest ≡ [] = drop_all (end + 1) rest (omega arith) in
    words_some rest rest [] (slice_split_none is_blank rest (λ k d lt. fails_before_first is_blank rest k d (omega arith))) (subst (λ t. is_some_text t ≡ true) all (some_front end rest some low))
    ∙ (λ i. sym all i ∷ words_of (sym none i)))
    (cases_lt (word_end rest) (length rest))

words_skip : (rest : List ℕ) (end : ℕ) → end ≡ word_end rest → end ≤ 0 → 0 < length rest → words_of rest ≡ words_of (drop (end + 1) rest)
words_skip rest end is none low =
    let less : word_end rest < length rest = omega arith in
    let zero_is : word_end rest ≡ 0 = omega arith in
    ap (filter is_some_text) (slice_split_first is_blank rest 0 less)
    ∙ cond-false (is_some_text (take (word_end rest) rest)) _ _ (ap (λ n. is_some_text (take n rest)) zero_is)
    ∙ ap (λ n. words_of (drop (n + 1) rest)) (sym is)

-- ---- the parameters that are read of them

-- behind parameters that can't be, no word makes some
pub words_none : (words : List (List ℕ)) → with_words words None ≡ None
words_none [] = refl
words_none (word ∷ words) = words_none words

module _ (text : List ℕ) (i : ℕ) (within : i < length text) (end : ℕ) (is : end ≡ word_end (drop i text)) (given : Parameters) where
  -- a word that adds a parameter leaves the words behind it to be read
  pub parameter_more : (next : Parameters) → 0 < end → Some next ≡ with_given given (given_by (take end (drop i text)))
      → with_words (words_of (drop (i + (end + 1)) text)) (Some next) ≡ with_words (words_of (drop i text)) (Some given)
  parameter_more next some e =
      ap (λ t. with_words (words_of t) (Some next)) (sym (drop-drop (end + 1) i text))
      ∙ ap (with_words (words_of (drop (end + 1) (drop i text)))) e
      ∙ sym (ap (λ w. with_words w (Some given)) (words_step (drop i text) end is some))

  -- a word that can't be added makes all words no parameters
  pub parameter_bad : 0 < end → None ≡ with_given given (given_by (take end (drop i text))) → None ≡ with_words (words_of (drop i text)) (Some given)
  parameter_bad some e =
      sym (ap (λ w. with_words w (Some given)) (words_step (drop i text) end is some)
      ∙ ap (with_words (words_of (drop (end + 1) (drop i text)))) (sym e)
      ∙ words_none (words_of (drop (end + 1) (drop i text))))

  -- an empty word adds nothing
  pub parameter_skip : end ≤ 0 → 0 < length (drop i text) → with_words (words_of (drop (i + (end + 1)) text)) (Some given) ≡ with_words (words_of (drop i text)) (Some given)
  parameter_skip none low =
      ap (λ t. with_words (words_of t) (Some given)) (sym (drop-drop (end + 1) i text))
      ∙ sym (ap (λ w. with_words w (Some given)) (words_skip (drop i text) end is none low))

-- ---- blanks at the front, and a word there

blanks_skip : (b : ℕ) (text : List ℕ) → is_blank b ≡ true → without_blanks (b ∷ text) ≡ without_blanks text
blanks_skip b text blank =
    let e : 1 + prefix_len is_blank text ≡ suc (prefix_len is_blank text) = omega arith in
    ap (λ n. drop n (b ∷ text)) (cond-true (is_blank b) (1 + prefix_len is_blank text) 0 blank ∙ e)

blanks_stop : (b : ℕ) (text : List ℕ) → is_blank b ≡ false → without_blanks (b ∷ text) ≡ b ∷ text
blanks_stop b text solid = ap (λ n. drop n (b ∷ text)) (cond-false (is_blank b) (1 + prefix_len is_blank text) 0 solid)

-- no blank stands first
abbrev pub is_solid : List ℕ → Bool
is_solid [] = true
is_solid (b ∷ text) = not (is_blank b)

-- a text is blanks and what follows them
pub record GapCut (text rest : List ℕ) : Type 0 where
  pub gap : List ℕ
  pub whole : text ≡ gap ++ rest
  pub blank : list_all is_blank gap ≡ true
  pub solid : is_solid rest ≡ true

-- a text is cut into its blanks at the front and what follows them
pub gap_cut : (text : List ℕ) → GapCut text (without_blanks text)
gap_cut [] = record { gap = []; whole = refl; blank = refl; solid = refl }
gap_cut (b ∷ text) =
    ⊎_elim
    (λ blank. let cut = gap_cut text in
    subst (GapCut (b ∷ text)) (sym (blanks_skip b text blank)) (record { gap = b ∷ cut.gap; whole = ap (λ t. b ∷ t) cut.whole; blank = and_from _ _ blank cut.blank; solid = cut.solid }))
    (λ solid. subst (GapCut (b ∷ text)) (sym (blanks_stop b text solid)) (record { gap = []; whole = refl; blank = refl; solid = not_from_false _ solid }))
    (cases_Bool (is_blank b))

-- blanks before a text that begins with none are those that are left out
pub gap_found : (gap rest : List ℕ) → list_all is_blank gap ≡ true → is_solid rest ≡ true → without_blanks (gap ++ rest) ≡ rest
gap_found [] [] blank solid = refl
gap_found [] (b ∷ rest) blank solid = blanks_stop b rest (elim (is_blank b) as (λ x. not x ≡ true → x ≡ false) [ true ↦ λ h. absurd (false≢true h) | false ↦ λ h. refl ] solid)
gap_found (b ∷ gap) rest blank solid = let p = and_parts _ _ blank in blanks_skip b (gap ++ rest) p.0 ∙ gap_found gap rest p.1 solid

word_more : (b : ℕ) (text : List ℕ) → is_blank b ≡ false → word_end (b ∷ text) ≡ suc (word_end text)
word_more b text solid = cond-true _ _ _ (not_from_false _ solid) ∙ omega arith

word_stop : (b : ℕ) (text : List ℕ) → is_blank b ≡ true → word_end (b ∷ text) ≡ 0
word_stop b text blank = cond-false _ _ _ (not_from_true _ blank)

-- the word at the front of a text has no blank
pub word_solid : (text : List ℕ) → list_any is_blank (take (word_end text) text) ≡ false
word_solid [] = refl
word_solid (b ∷ text) =
    ⊎_elim
    (λ blank. ap (λ n. list_any is_blank (take n (b ∷ text))) (word_stop b text blank))
    (λ solid. ap (λ n. list_any is_blank (take n (b ∷ text))) (word_more b text solid) ∙ or_from _ _ solid (word_solid text))
    (cases_Bool (is_blank b))

-- a word ends where a blank or nothing follows it
pub word_found : (word rest : List ℕ) → list_any is_blank word ≡ false → is_parted rest ≡ true → word_end (word ++ rest) ≡ length word
word_found [] [] solid parted = refl
word_found [] (b ∷ rest) solid parted = word_stop b rest parted
word_found (b ∷ word) rest solid parted = let p = or_parts _ _ solid in word_more b (word ++ rest) p.0 ∙ ap suc (word_found word rest p.1 parted)

-- a word at the front that isn't empty
pub word_first : (b : ℕ) (text : List ℕ) → is_blank b ≡ false → take (word_end (b ∷ text)) (b ∷ text) ≡ b ∷ take (word_end text) text
word_first b text solid = ap (λ n. take n (b ∷ text)) (word_more b text solid)
