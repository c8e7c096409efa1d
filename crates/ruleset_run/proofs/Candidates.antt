-- A rule that is no candidate has no `$&x` and no match.
use Rattle.std.proofs.Common.{◌≡◌, ℕ, List, [], ◌∷◌, take, drop, Bool, true, false, Some, None, Option, cond, refl, sym, ap, subst, ◌∙◌, zero, suc}
use Rattle.std.specs.Prelude.{◌||◌}
use Rattle.std.specs.List.{list_any}
use Rattle.std.proofs.lemmas.Bool.{and_parts, or_parts, or_right, or_left, true≢false}
use Rattle.mail_base.specs.declared.token.Token.{Token}
use Rattle.mail_base.specs.declared.token.Token.TheVariants.{Word, Quoted, Op, Sign}
use Rattle.mail_base.specs.declared.rule.Rule.{Rule}
use Rattle.mail_base.specs.declared.rule.Item.{Item}
use Rattle.mail_base.specs.declared.rule.Item.TheVariants.{Any, More, One, Empty, InClass, NotInClass, Exact, Late}
use Rattle.mail_base.specs.Tokens.{same_token}
use Rattle.mail_base.specs.inner.TokenLaws.{same_equiv}
use Rattle.mail_base.specs.Metas.{is_late}
use Rattle.mail_base.specs.Candidates.{anchor, first_word, first_exact, or_else, holds, has_anchor, is_none, is_free, is_candidate}
use Rattle.mail_base.specs.declared.classes.Classes.{Classes}
use Rattle.mail_base.specs.Tokens.{same_tokens}
use Rattle.rule_match.specs.Wants.{Want, These, want, wants}
use Rattle.rule_match.specs.Choices.{Fits}

-- ---- lists

any_later : (p : Token → Bool) (n : ℕ) (tokens : List Token) → list_any p (drop n tokens) ≡ true → list_any p tokens ≡ true
any_later p zero tokens h = h
any_later p (suc n) [] h = h
any_later p (suc n) (token ∷ tokens) h = or_right (p token) (list_any p tokens) (any_later p n tokens h)

any_first : (token : Token) (n : ℕ) (tokens : List Token) → same_tokens (token ∷ []) (take n tokens) ≡ true → list_any (same_token token) tokens ≡ true
any_first token zero tokens h = absurd (true≢false (sym h))
any_first token (suc n) [] h = absurd (true≢false (sym h))
any_first token (suc n) (first ∷ tokens) h = or_left (same_token token first) (list_any (same_token token) tokens) (and_parts (same_token token first) (same_tokens [] (take n tokens)) h).0

any_agree : (p q : Token → Bool) → ((token : Token) → p token ≡ q token) → (tokens : List Token) → list_any p tokens ≡ list_any q tokens
any_agree p q same [] = refl
any_agree p q same (token ∷ tokens) = ap (λ (b : Bool). b || list_any p tokens) (same token) ∙ ap (λ (b : Bool). q token || b) (any_agree p q same tokens)

-- ---- what a match holds

-- a token that stands for itself is among the tokens of each match
exact_there : (token : Token) (rest : List Want) (tokens : List Token) (lengths : List ℕ) → Fits (These (token ∷ []) ∷ rest) tokens lengths → list_any (same_token token) tokens ≡ true
exact_there token rest tokens [] fits = absurd fits
exact_there token rest tokens (n ∷ lengths) fits = any_first token n tokens fits.1

-- whatever the first item stands for, what holds of the tokens behind its piece holds of all
behind : (p : Token → Bool) (want : Want) (rest : List Want) (tokens : List Token) (lengths : List ℕ) → ((left : List Token) (later : List ℕ) → Fits rest left later → list_any p left ≡ true) → Fits (want ∷ rest) tokens lengths → list_any p tokens ≡ true
behind p want rest tokens [] there fits = absurd fits
behind p want rest tokens (n ∷ lengths) there fits = any_later p n tokens (there (drop n tokens) lengths fits.2)

module _ (classes : Classes) (token : Token) where
  word_there : (late : List (List Token)) (items : List Item) → first_word items ≡ Some token → (tokens : List Token) (lengths : List ℕ) → Fits (wants classes late items) tokens lengths → list_any (same_token token) tokens ≡ true
  word_there late [] is tokens lengths fits = absurd (cc is)
  word_there late (Exact (Word text) ∷ items) is tokens lengths fits = let e : Word text ≡ token = cc is in subst (λ (t : Token). list_any (same_token t) tokens ≡ true) e (exact_there (Word text) (wants classes late items) tokens lengths fits)
  word_there late (Exact (Quoted text) ∷ items) is tokens lengths fits = behind (same_token token) (want classes late (Exact (Quoted text))) (wants classes late items) tokens lengths (λ left later f. word_there late items is left later f) fits
  word_there late (Exact (Op byte) ∷ items) is tokens lengths fits = behind (same_token token) (want classes late (Exact (Op byte))) (wants classes late items) tokens lengths (λ left later f. word_there late items is left later f) fits
  word_there late (Exact (Sign mark) ∷ items) is tokens lengths fits = behind (same_token token) (want classes late (Exact (Sign mark))) (wants classes late items) tokens lengths (λ left later f. word_there late items is left later f) fits
  word_there late (Any ∷ items) is tokens lengths fits = behind (same_token token) (want classes late Any) (wants classes late items) tokens lengths (λ left later f. word_there late items is left later f) fits
  word_there late (More ∷ items) is tokens lengths fits = behind (same_token token) (want classes late More) (wants classes late items) tokens lengths (λ left later f. word_there late items is left later f) fits
  word_there late (One ∷ items) is tokens lengths fits = behind (same_token token) (want classes late One) (wants classes late items) tokens lengths (λ left later f. word_there late items is left later f) fits
  word_there late (Empty ∷ items) is tokens lengths fits = behind (same_token token) (want classes late Empty) (wants classes late items) tokens lengths (λ left later f. word_there late items is left later f) fits
  word_there late (InClass name ∷ items) is tokens lengths fits = behind (same_token token) (want classes late (InClass name)) (wants classes late items) tokens lengths (λ left later f. word_there late items is left later f) fits
  word_there late (NotInClass name ∷ items) is tokens lengths fits = behind (same_token token) (want classes late (NotInClass name)) (wants classes late items) tokens lengths (λ left later f. word_there late items is left later f) fits
  word_there late (Late name ∷ items) is tokens lengths fits = behind (same_token token) (want classes late (Late name)) (wants classes (drop 1 late) items) tokens lengths (λ left later f. word_there (drop 1 late) items is left later f) fits

  token_there : (late : List (List Token)) (items : List Item) → first_exact items ≡ Some token → (tokens : List Token) (lengths : List ℕ) → Fits (wants classes late items) tokens lengths → list_any (same_token token) tokens ≡ true
  token_there late [] is tokens lengths fits = absurd (cc is)
  token_there late (Exact other ∷ items) is tokens lengths fits = let e : other ≡ token = cc is in subst (λ (t : Token). list_any (same_token t) tokens ≡ true) e (exact_there other (wants classes late items) tokens lengths fits)
  token_there late (Any ∷ items) is tokens lengths fits = behind (same_token token) (want classes late Any) (wants classes late items) tokens lengths (λ left later f. token_there late items is left later f) fits
  token_there late (More ∷ items) is tokens lengths fits = behind (same_token token) (want classes late More) (wants classes late items) tokens lengths (λ left later f. token_there late items is left later f) fits
  token_there late (One ∷ items) is tokens lengths fits = behind (same_token token) (want classes late One) (wants classes late items) tokens lengths (λ left later f. token_there late items is left later f) fits
  token_there late (Empty ∷ items) is tokens lengths fits = behind (same_token token) (want classes late Empty) (wants classes late items) tokens lengths (λ left later f. token_there late items is left later f) fits
  token_there late (InClass name ∷ items) is tokens lengths fits = behind (same_token token) (want classes late (InClass name)) (wants classes late items) tokens lengths (λ left later f. token_there late items is left later f) fits
  token_there late (NotInClass name ∷ items) is tokens lengths fits = behind (same_token token) (want classes late (NotInClass name)) (wants classes late items) tokens lengths (λ left later f. token_there late items is left later f) fits
  token_there late (Late name ∷ items) is tokens lengths fits = behind (same_token token) (want classes late (Late name)) (wants classes (drop 1 late) items) tokens lengths (λ left later f. token_there (drop 1 late) items is left later f) fits

  chosen_there : (late : List (List Token)) (items : List Item) (word : Option Token) → first_word items ≡ word → or_else word (first_exact items) ≡ Some token → (tokens : List Token) (lengths : List ℕ) → Fits (wants classes late items) tokens lengths → list_any (same_token token) tokens ≡ true
  chosen_there late items (Some word) q is tokens lengths fits = word_there late items (q ∙ is) tokens lengths fits
  chosen_there late items None q is tokens lengths fits = token_there late items is tokens lengths fits

-- ---- no candidate

-- the anchor of a rule that has one
module _ (rule : Rule) (tokens : List Token) where
  no_match : (token : Token) → anchor rule.left ≡ Some token → list_any is_late rule.left ≡ false → list_any (λ t. has_anchor t rule) tokens ≡ false → (classes : Classes) (late : List (List Token)) (lengths : List ℕ) → Fits (wants classes late rule.left) tokens lengths → ⊥
  no_match token is quiet none classes late lengths fits =
      let chosen : or_else (first_word rule.left) (first_exact rule.left) ≡ Some token = ap (λ (b : Bool). cond b None (or_else (first_word rule.left) (first_exact rule.left))) (sym quiet) ∙ is in
      let there = chosen_there classes token late rule.left (first_word rule.left) refl chosen tokens lengths fits in
      let same : list_any (λ t. has_anchor t rule) tokens ≡ list_any (same_token token) tokens =
      any_agree (λ t. has_anchor t rule) (same_token token) (λ t. ap (holds t) is ∙ same_equiv.symm t token) tokens in
      true≢false (sym there ∙ sym same ∙ none)

  by_anchor : (a : Option Token) → anchor rule.left ≡ a → is_none a ≡ false → list_any is_late rule.left ≡ false → list_any (λ t. has_anchor t rule) tokens ≡ false → (classes : Classes) (late : List (List Token)) (lengths : List ℕ) → Fits (wants classes late rule.left) tokens lengths → ⊥
  by_anchor None is some quiet none classes late lengths fits = true≢false some
  by_anchor (Some token) is some quiet none classes late lengths fits = no_match token is quiet none classes late lengths fits

  late_is_free : (b : Bool) → list_any is_late rule.left ≡ b → is_none (cond b None (or_else (first_word rule.left) (first_exact rule.left))) ≡ false → b ≡ false
  late_is_free true q some = absurd (true≢false some)
  late_is_free false q some = refl

  pub no_candidate : is_candidate tokens rule ≡ false → (list_any is_late rule.left ≡ false) × ((classes : Classes) (late : List (List Token)) (lengths : List ℕ) → Fits (wants classes late rule.left) tokens lengths → ⊥)
  no_candidate none =
      let parts = or_parts (is_free rule) (list_any (λ t. has_anchor t rule) tokens) none in
      let quiet = late_is_free (list_any is_late rule.left) refl parts.0 in
      (quiet, by_anchor (anchor rule.left) refl parts.0 quiet parts.1)
