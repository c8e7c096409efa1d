-- A construct, as the code takes it apart.
use Rattle.std.proofs.Common.{◌≡◌, ℕ, ◌+◌, ◌<◌, ◌==◌, ◌&&◌, ◌||◌, Bool, true, false, cond, List, [], ◌∷◌, ◌++◌, length, drop, get_or, Option, Some, None, Ok, refl, sym, ◌∙◌, ap, arith}
use Rattle.std.specs.List.{list_any}
use Rattle.std.proofs.lemmas.Bool.{cond-true, cond-false, or_parts, and_left}
use Rattle.std.proofs.lemmas.List.{drop-drop, drop_more}
use Rattle.mail_base.specs.Whites.{is_white}
use Rattle.addr_tokens.specs.declared.construct.Construct as form
use Rattle.addr_tokens.specs.declared.front.Front.TheVariants as front
use Rattle.addr_tokens.specs.Pieces.{Alphabet, Dollar, Operator, is_listed, is_special, is_doubled, means, undoubled}
use Rattle.addr_tokens.proofs.WordLemmas.{special_parts}
use Rattle.addr_tokens.specs.Reader.{first_of, first_word, past_word, begins_dollar, first_dollar}
use Rattle.addr_tokens.specs.inner.Fronts.{first_at_dollar}
use Rattle.addr_tokens.specs.inner.Views.{construct_read, construct_in, size_behind, front_read}

-- ---- braces, byte by byte

-- bytes put in front of the first part of a pair that may be there
abbrev pub with_front : List ℕ → Option (List ℕ × List ℕ) → Option (List ℕ × List ℕ)
with_front before None = None
with_front before (Some parts) = Some (before ++ parts.0, parts.1)

-- ---- at the front of a text

-- a byte that is neither white space nor special, and no dollar sign
pub unmarked_is : (alphabet : Alphabet) (place b : ℕ) (bs : List ℕ) → is_white b ≡ false → is_special b ≡ false → (b == 36) ≡ false
    → first_of alphabet place b bs ≡ cond (is_listed alphabet b) (Ok (Operator b, bs)) (first_word place (b ∷ bs) (past_word alphabet false (b ∷ bs)))
unmarked_is alphabet place b bs white special d =
    let p = special_parts b special in
    cond-false _ _ _ white ∙ cond-false _ _ _ p.2 ∙ cond-false _ _ _ p.3 ∙ cond-false _ _ _ p.0
    ∙ cond-false _ _ _ ((λ i. p.1 i || (d i && (begins_dollar bs && is_doubled alphabet))))
    ∙ cond-false _ _ _ (ap (λ t. t && means alphabet.dollars bs) d)

module _ (alphabet : Alphabet) (place : ℕ) (text : List ℕ) (some : 0 < length text) (first : get_or text 0 0 ≡ 36) where
  whole : 36 ∷ drop 1 text ≡ text
  whole = sym (drop_more text 0 0 some ∙ ap (λ x. x ∷ drop 1 text) first)

  -- a doubled dollar sign begins a word
  pub pair_is : (begins_dollar (drop 1 text) && is_doubled alphabet) ≡ true → first_at_dollar alphabet place (drop 1 text) ≡ first_word place text (past_word alphabet false text)
  pair_is two = cond-true _ _ _ two ∙ ap (λ x. first_word place x (past_word alphabet false x)) whole

  -- a dollar sign that begins a construct is read as one
  pub meant_is : (begins_dollar (drop 1 text) && is_doubled alphabet) ≡ false → means alphabet.dollars (drop 1 text) ≡ true → first_at_dollar alphabet place (drop 1 text) ≡ first_dollar alphabet place (drop 1 text)
  meant_is one is = cond-false _ _ _ one ∙ cond-true _ _ _ is

  -- a dollar sign that means nothing and is no operator begins a word
  pub unlisted_is : (begins_dollar (drop 1 text) && is_doubled alphabet) ≡ false → means alphabet.dollars (drop 1 text) ≡ false → is_listed alphabet 36 ≡ false → first_at_dollar alphabet place (drop 1 text) ≡ first_word place text (past_word alphabet false text)
  unlisted_is one none other = cond-false _ _ _ one ∙ cond-false _ _ _ none ∙ cond-false _ _ _ other ∙ ap (λ x. first_word place x (past_word alphabet false x)) whole

-- a construct behind the dollar sign is the piece at it
pub construct_front : (text part : List ℕ) (found : form.Construct) → part ≡ drop 1 text → construct_read part (Ok found) ≡ front_read text (Ok (front.Dollar found))
construct_front text part found is =
    let e : 1 + size_behind found ≡ size_behind found + 1 = omega arith in
    (λ i. Ok (Dollar (construct_in found (is i)), drop (size_behind found) (is i)))
    ∙ ap (λ x. Ok (Dollar (construct_in found (drop 1 text)), x)) (drop-drop (size_behind found) 1 text ∙ ap (λ k. drop k text) e)

-- ---- doubled dollar signs

keeps : (b c : ℕ) (bytes : List ℕ) (slash dollar : Bool) → dollar ≡ false → undoubled bytes ≡ bytes → undoubled (c ∷ bytes) ≡ c ∷ bytes
    → cond slash (b ∷ c ∷ undoubled bytes) (cond (dollar && (c == 36)) (36 ∷ undoubled bytes) (b ∷ undoubled (c ∷ bytes))) ≡ b ∷ c ∷ bytes
keeps b c bytes true dollar none one two = ap (λ x. b ∷ c ∷ x) one
keeps b c bytes false dollar none one two = cond-false _ _ _ (and_left dollar _ none) ∙ ap (λ x. b ∷ x) two

-- without a dollar sign all bytes stay
pub undoubled_none : (bytes : List ℕ) → list_any (λ b. b == 36) bytes ≡ false → undoubled bytes ≡ bytes
undoubled_none [] none = refl
undoubled_none (b ∷ []) none = refl
undoubled_none (b ∷ c ∷ bytes) none =
    let p = or_parts (b == 36) (list_any (λ x. x == 36) (c ∷ bytes)) none in
    let q = or_parts (c == 36) (list_any (λ x. x == 36) bytes) p.1 in
    keeps b c bytes (b == 92) (b == 36) p.0 (undoubled_none bytes q.1) (undoubled_none (c ∷ bytes) p.1)
