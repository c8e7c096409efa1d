-- A quoted string or a comment that is closed, as the piece at the front of a text.
use Rattle.std.proofs.Common.{◌≡◌, ℕ, ◌+◌, ◌-◌, ◌≤◌, ◌<◌, ◌==◌, ◌||◌, Bool, true, false, List, ◌∷◌, length, take, drop, get_or, Ok, Err, refl, sym, ◌∙◌, ap, arith}
use Rattle.std.proofs.lemmas.Bool.{cond-false, ne_eqb, eqb-true, false≢true}
use Rattle.std.proofs.lemmas.List.{drop-drop, drop_more, length-drop}
use Rattle.addr_tokens.specs.declared.fault.ScanFault.TheVariants.{Unbalanced}
use Rattle.addr_tokens.specs.Pieces.{Alphabet, Comment, Quotation, Run, is_special}
use Rattle.addr_tokens.specs.Reader.{Ending, Closed, first_of, first_word, first_comment, first_quote, front_of, past_word}
use Rattle.addr_tokens.proofs.WordLemmas.{front_taken}

closed_at : (text part : List ℕ) (n : ℕ) (past : List ℕ → Ending) → part ≡ drop 1 text → Closed (drop n part) ≡ past part → past (drop 1 text) ≡ Closed (drop (n + 1) text)
closed_at text part n past is ends =
    let e : 1 + n ≡ n + 1 = omega arith in
    sym (ap past is) ∙ sym ends ∙ ap (λ x. Closed (drop n x)) is ∙ ap Closed (drop-drop n 1 text) ∙ ap (λ k. Closed (drop k text)) e

module _ (text part : List ℕ) (n place : ℕ) (past : List ℕ → Ending) (is : part ≡ drop 1 text) (some : 0 < length text) (within : n ≤ length part) (ends : Closed (drop n part) ≡ past part) where
  front : front_of text (drop (n + 1) text) ≡ take (n + 1) text
  front =
      let le : n + 1 ≤ length text = omega (arith, ap length is, length-drop 1 text) in
      front_taken text (n + 1) le

  -- a comment whose end was found is the first piece up to that end
  pub comment_piece : first_comment place text (past (drop 1 text)) ≡ Ok (Comment (take (n + 1) text), drop (n + 1) text)
  comment_piece = ap (first_comment place text) (closed_at text part n past is ends) ∙ ap (λ x. Ok (Comment x, drop (n + 1) text)) front

  -- a quotation whose end was found is the first piece up to that end
  pub quote_piece : first_quote place text (past (drop 1 text)) ≡ Ok (Quotation (take (n + 1) text), drop (n + 1) text)
  quote_piece = ap (first_quote place text) (closed_at text part n past is ends) ∙ ap (λ x. Ok (Quotation x, drop (n + 1) text)) front

-- a word, as the piece at the front of a text
pub run_read : (place : ℕ) (text past : List ℕ) (n : ℕ) → (n ≡ 0 → ⊥) → n ≤ length text → drop n text ≡ past → first_word place text past ≡ Ok (Run (take n text), drop n text)
run_read place text past n some within is =
    let other : (length text - length past ≡ 0) → ⊥ = λ e. some (omega (arith, ap length is, length-drop n text, e)) in
    cond-false _ _ _ (ne_eqb _ _ other) ∙ ap (λ x. Ok (Run (front_of text x), x)) (sym is) ∙ ap (λ x. Ok (Run x, drop n text)) (front_taken text n within)

module _ (alphabet : Alphabet) (place : ℕ) (text : List ℕ) (some : 0 < length text) where
  parts : get_or text 0 0 ∷ drop 1 text ≡ text
  parts = sym (drop_more text 0 0 some)

  -- a backslash begins a word
  pub slash_front : get_or text 0 0 ≡ 92 → first_of alphabet place (get_or text 0 0) (drop 1 text) ≡ first_word place text (past_word alphabet false text)
  slash_front is =
      ap (λ x. first_of alphabet place x (drop 1 text)) is
      ∙ ap (λ x. first_word place x (past_word alphabet false x)) (ap (λ b. b ∷ drop 1 text) (sym is) ∙ parts)

-- of the bytes that quote or comment and a dollar sign, the closing parenthesis is the one that is left
closing_is : (q s o c d : Bool) → (q || s || o || c || d) ≡ true → q ≡ false → s ≡ false → o ≡ false → d ≡ false → c ≡ true
closing_is q s o true d is quote slash opening dollar = refl
closing_is true s o false d is quote slash opening dollar = absurd (false≢true (sym quote))
closing_is false true o false d is quote slash opening dollar = absurd (false≢true (sym slash))
closing_is false false true false d is quote slash opening dollar = absurd (false≢true (sym opening))
closing_is false false false false true is quote slash opening dollar = absurd (false≢true (sym dollar))
closing_is false false false false false is quote slash opening dollar = absurd (false≢true is)

-- a closing parenthesis begins no piece: it is unbalanced where it stands
pub closing_front : (alphabet : Alphabet) (place b : ℕ) (bs : List ℕ) → (is_special b || b == 36) ≡ true → (b ≡ 34 → ⊥) → (b ≡ 92 → ⊥) → (b ≡ 40 → ⊥) → (b ≡ 36 → ⊥) → first_of alphabet place b bs ≡ Err (Unbalanced place)
closing_front alphabet place b bs marked quote slash opening dollar =
    let is : b ≡ 41 = eqb-true b 41 (closing_is (b == 34) (b == 92) (b == 40) (b == 41) (b == 36) marked (ne_eqb b 34 quote) (ne_eqb b 92 slash) (ne_eqb b 40 opening) (ne_eqb b 36 dollar)) in
    ap (λ x. first_of alphabet place x bs) is
