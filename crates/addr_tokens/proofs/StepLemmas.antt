-- One byte of a text, as it is read.
use Rattle.std.proofs.Common.{◌≡◌, ℕ, zero, suc, ◌+◌, ◌-◌, ◌<◌, ◌==◌, Bool, true, false, not, ◌&&◌, ◌||◌, List, [], ◌∷◌, length, drop, refl, sym, ◌∙◌, ap, get_or, arith}
use Rattle.std.proofs.lemmas.Bool.{cond-true, cond-false, eq-eqb, ne_eqb, and_parts, not-true, false≢true}
use Rattle.std.proofs.lemmas.List.{drop_more, nil_from_length}
use Rattle.addr_tokens.specs.Pieces.{Alphabet, is_word_byte, is_special, is_listed, is_doubled, is_dollar, means}
use Rattle.addr_tokens.specs.Reader.{takes_next, begins_dollar, past_word, past_comment}
use Rattle.addr_tokens.specs.inner.Tables.{is_lone, is_asked}
use Rattle.mail_base.specs.Whites.{is_white}
use Rattle.addr_tokens.proofs.WordLemmas.{special_parts}

-- a byte that stands in a word whatever is behind it, before any text
pub lone_parts : (alphabet : Alphabet) (b : ℕ) → is_lone (is_listed alphabet b) b ≡ true → (is_white b ≡ false) × (is_special b ≡ false) × (is_listed alphabet b ≡ false) × ((b == 36) ≡ false)
lone_parts alphabet b lone =
    let p = and_parts (not (is_white b) && not (is_special b) && not (is_listed alphabet b)) (not (b == 36)) lone in
    let q = and_parts (not (is_white b) && not (is_special b)) (not (is_listed alphabet b)) p.0 in
    let r = and_parts (not (is_white b)) (not (is_special b)) q.0 in
    (not-true _ r.0, not-true _ r.1, not-true _ q.1, not-true _ p.1)

lone_takes : (alphabet : Alphabet) (b : ℕ) (after : List ℕ) → is_lone (is_listed alphabet b) b ≡ true → takes_next alphabet b after ≡ false
lone_takes alphabet b after lone =
    let p = lone_parts alphabet b lone in
    let slash = (special_parts b p.1).1 in
    λ i. slash i || (p.3 i && (begins_dollar after && is_doubled alphabet))

lone_is : (alphabet : Alphabet) (b : ℕ) (after : List ℕ) → is_lone (is_listed alphabet b) b ≡ true → is_word_byte alphabet b after ≡ true
lone_is alphabet b after lone =
    let p = lone_parts alphabet b lone in
    λ i. not (p.0 i) && not (p.1 i) && not (p.2 i) && not (p.3 i && means alphabet.dollars after)

-- a byte that is asked and is neither a backslash nor a dollar sign stands in no word
no_word : (w s l t d : Bool) → (w || (s || (l || t))) ≡ true → t ≡ false → (not w && not s && not l && not d) ≡ false
no_word true s l t d is other = refl
no_word false true l t d is other = refl
no_word false false true t d is other = refl
no_word false false false true d is other = absurd (false≢true (sym other))
no_word false false false false d is other = absurd (false≢true is)

asked_is : (alphabet : Alphabet) (b : ℕ) (after : List ℕ) → is_asked (is_listed alphabet b) b ≡ true → (b == 36) ≡ false → is_word_byte alphabet b after ≡ false
asked_is alphabet b after asked other = no_word (is_white b) (is_special b) (is_listed alphabet b) (b == 36) (is_dollar alphabet.dollars b after) asked other

module _ (text : List ℕ) (i : ℕ) (within : i < length text) where
  abbrev b : ℕ
  b = get_or text i 0

  abbrev after : List ℕ
  after = drop (i + 1) text

  at : drop i text ≡ b ∷ after
  at = drop_more text i 0 within

  -- in a comment a byte behind a backslash is passed
  pub comment_escaped_byte : (depth : ℕ) → past_comment depth true (drop i text) ≡ past_comment depth false (drop (i + 1) text)
  comment_escaped_byte depth = ap (past_comment depth true) at

  -- in a comment a backslash quotes the byte behind it
  pub comment_backslash : (depth : ℕ) → get_or text i 0 ≡ 92 → past_comment depth false (drop i text) ≡ past_comment depth true (drop (i + 1) text)
  comment_backslash depth is = ap (past_comment depth false) at ∙ cond-true _ _ _ (eq-eqb _ _ is)

  -- in a comment an opening parenthesis goes one deeper
  pub comment_opening : (depth : ℕ) → (get_or text i 0 ≡ 92 → ⊥) → get_or text i 0 ≡ 40 → past_comment depth false (drop i text) ≡ past_comment (depth + 1) false (drop (i + 1) text)
  comment_opening depth unslashed is =
      let e : suc depth ≡ depth + 1 = omega arith in
      ap (past_comment depth false) at ∙ cond-false _ _ _ (ne_eqb _ _ unslashed) ∙ cond-true _ _ _ (eq-eqb _ _ is) ∙ ap (λ d. past_comment d false after) e

  -- in an inner comment a closing parenthesis comes back out by one
  pub comment_closing : (depth : ℕ) → (get_or text i 0 ≡ 92 → ⊥) → (get_or text i 0 ≡ 40 → ⊥) → get_or text i 0 ≡ 41 → (depth ≡ 0 → ⊥) → past_comment depth false (drop i text) ≡ past_comment (depth - 1) false (drop (i + 1) text)
  comment_closing zero unslashed none is some = absurd (some refl)
  comment_closing (suc depth) unslashed none is some =
      let e : depth ≡ suc depth - 1 = omega arith in
      ap (past_comment (suc depth) false) at ∙ cond-false _ _ _ (ne_eqb _ _ unslashed) ∙ cond-false _ _ _ (ne_eqb _ _ none) ∙ cond-true _ _ _ (eq-eqb _ _ is)
      ∙ ap (λ d. past_comment d false after) e

  -- in a comment any other byte is passed
  pub comment_byte : (depth : ℕ) → (get_or text i 0 ≡ 92 → ⊥) → (get_or text i 0 ≡ 40 → ⊥) → (get_or text i 0 ≡ 41 → ⊥) → past_comment depth false (drop i text) ≡ past_comment depth false (drop (i + 1) text)
  comment_byte depth unslashed none opens = ap (past_comment depth false) at ∙ cond-false _ _ _ (ne_eqb _ _ unslashed) ∙ cond-false _ _ _ (ne_eqb _ _ none) ∙ cond-false _ _ _ (ne_eqb _ _ opens)

  word_taking_byte : (alphabet : Alphabet) → takes_next alphabet (get_or text i 0) (drop (i + 1) text) ≡ true → past_word alphabet false (drop i text) ≡ past_word alphabet true (drop (i + 1) text)
  word_taking_byte alphabet takes = ap (past_word alphabet false) at ∙ cond-true _ _ _ takes

  word_byte : (alphabet : Alphabet) → takes_next alphabet (get_or text i 0) (drop (i + 1) text) ≡ false → is_word_byte alphabet (get_or text i 0) (drop (i + 1) text) ≡ true
      → past_word alphabet false (drop i text) ≡ past_word alphabet false (drop (i + 1) text)
  word_byte alphabet takes is = ap (past_word alphabet false) at ∙ cond-false _ _ _ takes ∙ cond-true _ _ _ is

  -- a byte that needs no look at what is behind it goes on with a word
  pub lone_byte : (alphabet : Alphabet) → is_lone (is_listed alphabet (get_or text i 0)) (get_or text i 0) ≡ true → past_word alphabet false (drop i text) ≡ past_word alphabet false (drop (i + 1) text)
  lone_byte alphabet lone = word_byte alphabet (lone_takes alphabet b after lone) (lone_is alphabet b after lone)

  -- a byte that takes the next one goes on with a word behind both
  pub word_pair : i + 1 < length text → (alphabet : Alphabet) → takes_next alphabet (get_or text i 0) (drop (i + 1) text) ≡ true → past_word alphabet false (drop i text) ≡ past_word alphabet false (drop (i + 2) text)
  word_pair more alphabet takes =
      let e : i + 1 + 1 ≡ i + 2 = omega arith in
      word_taking_byte alphabet takes ∙ ap (past_word alphabet true) (drop_more text (i + 1) 0 more) ∙ ap (λ n. past_word alphabet false (drop n text)) e

  -- a backslash that ends the text
  pub word_end : get_or text i 0 ≡ 92 → length (drop (i + 1) text) ≡ 0 → (alphabet : Alphabet) → drop i text ≡ past_word alphabet false (drop i text)
  word_end is none alphabet =
      let one : drop i text ≡ 92 ∷ [] = at ∙ (λ j. is j ∷ nil_from_length after none j) in
      one ∙ ap (past_word alphabet false) (sym one)

  -- a byte that ends a word
  pub ending_byte : (alphabet : Alphabet) → is_asked (is_listed alphabet (get_or text i 0)) (get_or text i 0) ≡ true → (get_or text i 0 ≡ 92 → ⊥) → (get_or text i 0 ≡ 36 → ⊥)
      → drop i text ≡ past_word alphabet false (drop i text)
  ending_byte alphabet asked unslashed plain =
      let slash : (b == 92) ≡ false = ne_eqb b 92 unslashed in
      let dollar : (b == 36) ≡ false = ne_eqb b 36 plain in
      let takes : takes_next alphabet b after ≡ false = λ j. slash j || (dollar j && (begins_dollar after && is_doubled alphabet)) in
      at ∙ sym (ap (past_word alphabet false) at ∙ cond-false _ _ _ takes ∙ cond-false _ _ _ (asked_is alphabet b after asked dollar))
