-- A piece that its first byte tells alone: a word, white space or an operator.
use Rattle.std.proofs.Common.{◌≡◌, ℕ, ◌+◌, ◌<◌, ◌≤◌, ◌==◌, ◌||◌, Bool, true, false, List, ◌∷◌, length, take, drop, get_or, Ok, refl, sym, ◌∙◌, ap, arith}
use Rattle.std.proofs.lemmas.Bool.{cond-true, cond-false, or_parts, false≢true}
use Rattle.std.proofs.lemmas.List.{drop-drop, drop_more, length-drop}
use Rattle.mail_base.specs.Whites.{is_white}
use Rattle.addr_tokens.specs.Pieces.{Alphabet, White, Operator, Run, is_listed, is_special}
use Rattle.addr_tokens.specs.Reader.{first_of, first_word, past_word}
use Rattle.addr_tokens.specs.inner.Tables.{is_lone, is_asked}
use Rattle.addr_tokens.proofs.StepLemmas.{lone_parts, lone_byte}
use Rattle.addr_tokens.proofs.DollarLemmas.{unmarked_is}
use Rattle.addr_tokens.proofs.FrontLemmas.{run_read}

-- what is asked and is nothing else is listed
listed_by : (w s l t : Bool) → (w || (s || (l || t))) ≡ true → w ≡ false → s ≡ false → t ≡ false → l ≡ true
listed_by w s true t is white special other = refl
listed_by true s false t is white special other = absurd (false≢true (sym white))
listed_by false true false t is white special other = absurd (false≢true (sym special))
listed_by false false false true is white special other = absurd (false≢true (sym other))
listed_by false false false false is white special other = absurd (false≢true is)

module _ (alphabet : Alphabet) (place : ℕ) (text : List ℕ) (some : 0 < length text) where
  abbrev b : ℕ
  b = get_or text 0 0

  parts : b ∷ drop 1 text ≡ text
  parts = sym (drop_more text 0 0 some)

  -- white space is the first piece
  pub white_taken : is_white (get_or text 0 0) ≡ true → first_of alphabet place (get_or text 0 0) (drop 1 text) ≡ Ok (White (get_or text 0 0), drop 1 text)
  white_taken white = cond-true _ _ _ white

  -- an operator is the first piece
  pub operator_taken : is_asked (is_listed alphabet (get_or text 0 0)) (get_or text 0 0) ≡ true → is_white (get_or text 0 0) ≡ false → (is_special (get_or text 0 0) || get_or text 0 0 == 36) ≡ false
      → first_of alphabet place (get_or text 0 0) (drop 1 text) ≡ Ok (Operator (get_or text 0 0), drop 1 text)
  operator_taken asked white unmarked =
      let p = or_parts (is_special b) (b == 36) unmarked in
      unmarked_is alphabet place b (drop 1 text) white p.0 p.1 ∙ cond-true _ _ _ (listed_by (is_white b) (is_special b) (is_listed alphabet b) (b == 36) asked white p.0 p.1)

  -- a word whose first byte stands in it whatever is behind it
  pub word_taken : (n : ℕ) (part : List ℕ) → part ≡ drop 1 text → n ≤ length part → drop n part ≡ past_word alphabet false part → is_lone (is_listed alphabet (get_or text 0 0)) (get_or text 0 0) ≡ true
      → first_of alphabet place (get_or text 0 0) (drop 1 text) ≡ Ok (Run (take (n + 1) text), drop (n + 1) text)
  word_taken n part is within past lone =
      let p = lone_parts alphabet b lone in
      let one : 1 + n ≡ n + 1 = omega arith in
      let rest : drop (n + 1) text ≡ past_word alphabet false text =
      ap (λ k. drop k text) (sym one) ∙ sym (drop-drop n 1 text) ∙ ap (drop n) (sym is) ∙ past ∙ ap (past_word alphabet false) is ∙ sym (lone_byte text 0 some alphabet lone) in
      let few : n + 1 ≤ length text = omega (arith, ap length is, length-drop 1 text) in
      unmarked_is alphabet place b (drop 1 text) p.0 p.1 p.3 ∙ cond-false _ _ _ p.2 ∙ ap (λ x. first_word place x (past_word alphabet false x)) parts
      ∙ run_read place text (past_word alphabet false text) (n + 1) (λ e. omega (arith, e)) few rest
