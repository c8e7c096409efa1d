-- What fits a `$=x` begins with the first token of a member, so that both masks have its place, and
-- that of the tokens has the place of it and what stands before it.
use Rattle.std.proofs.Common.{◌≡◌, ℕ, zero, suc, ◌+◌, ◌-◌, ◌*◌, ◌/◌, ◌%◌, ◌^◌, ◌<◌, ◌≤◌, ◌==◌, List, [], ◌∷◌, take, drop, Bool, true, false, Option, Some, None, not, bit_and, bit_or, inl, inr, refl, sym, ap, ◌∙◌, subst, arith, add-zero, pow_pos}
use Rattle.std.specs.Int.{bit_at, rotate_right, w64}
use Rattle.std.specs.Prelude.{◌||◌}
use Rattle.std.proofs.lemmas.Bool.{and_from, and_parts, or_right, true≢false, both_ways, cases_lt, eqb-true, eq-eqb}
use Rattle.std.proofs.lemmas.Nat.{shr-shr, shr_split}
use Rattle.std.proofs.lemmas.Nat.Bits.{bit_at-lt, bit_at-zero, bit_at_and, bit_at_or, bit_at_cat_high, bit_at_cat_low}
use Rattle.mail_base.proofs.HeadLemmas.{IsIn, head_in}
use Rattle.mail_base.proofs.TokenPlaces.{same_place}
use Rattle.mail_base.specs.Catalogs.{value_at, members_of}
use Rattle.mail_base.specs.Masks.{place_of, pair_place, places_from, places_of, mask_of, heads_of, edge}
use Rattle.mail_base.specs.Texts.{text_place}
use Rattle.mail_base.specs.Tokens.{mark_number, same_token, same_tokens}
use Rattle.mail_base.specs.declared.class.Member.{Member}
use Rattle.mail_base.specs.declared.classes.Classes.{Classes}
use Rattle.mail_base.specs.declared.rule.Item.{Item}
use Rattle.mail_base.specs.declared.rule.Item.TheVariants.{Any, More, One, Empty, InClass, NotInClass, Exact, Late}
use Rattle.mail_base.specs.declared.token.Mark.{Mark}
use Rattle.mail_base.specs.declared.token.Mark.TheVariants.{Alt, Mailer, Host, User, End}
use Rattle.mail_base.specs.declared.token.Token.{Token}
use Rattle.mail_base.specs.declared.token.Token.TheVariants.{Word, Quoted, Op, Sign}
use Rattle.rule_match.specs.Choices.{Fits}
use Rattle.rule_match.specs.Wants.{Phrase, is_none, want, wants, lists_after, meets}
use Rattle.rule_match.specs.inner.Heads.{known_place, place_behind, may_follow, has_head, have_heads}
use Rattle.rule_match.proofs.Masking.{IsBefore, has, mask_bit, one_if}

-- two masks that both have a place have bits in common
common_place : (one another place : ℕ) → IsIn place one → IsIn place another → not (bit_and one another == 0) ≡ true
common_place one another place h k = by (bit_and one another == 0) refl
  where
    by : (b : Bool) → (bit_and one another == 0) ≡ b → not b ≡ true
    by false e = refl
    by true e =
        let none : bit_and one another ≡ 0 = eqb-true (bit_and one another) 0 e in
        let zero_bit : bit_at (bit_and one another) place ≡ 0 = ap (λ m. bit_at m place) none ∙ bit_at-zero place in
        absurd (omega (arith, h, k, zero_bit, bit_at_and one another place))

-- ---- a mask that is turned

-- a bit that is not below the number of the turn goes down by it
turned_low : (n k i : ℕ) → bit_at (n / 2 ^ k) i ≡ bit_at n (k + i)
turned_low n k i = ap (λ (x : ℕ). x % 2) (shr-shr n k i)

-- and one below it goes up to the end of the word
turned_high : (n j i : ℕ) → j + i < 64 → bit_at (n * 2 ^ j % 2 ^ 64) (j + i) ≡ bit_at n i
turned_high n j i fits =
    let whole : ℕ = n * 2 ^ j in
    let low = bit_at_cat_low (whole / 2 ^ 64) 64 (whole % 2 ^ 64) (j + i) fits in
    let split : whole / 2 ^ 64 * 2 ^ 64 + whole % 2 ^ 64 ≡ whole = shr_split whole 64 in
    let back : j + i - j ≡ i = omega arith in
    sym low ∙ ap (λ (x : ℕ). bit_at x (j + i)) (split ∙ sym (add-zero whole))
    ∙ bit_at_cat_high n j 0 (j + i) (pow_pos j) (omega arith) ∙ ap (bit_at n) back

-- two masks together have what either has
in_first : (one another i : ℕ) → IsIn i one → IsIn i (bit_or one another)
in_first one another i h = omega (arith, h, bit_at_or one another i, bit_at-lt another i)

in_second : (one another i : ℕ) → IsIn i another → IsIn i (bit_or one another)
in_second one another i h = omega (arith, h, bit_at_or one another i, bit_at-lt one i)

-- a word turned right by fewer than its bits
abbrev turned : ℕ → ℕ → ℕ
turned mask k = bit_or (mask / 2 ^ k) (mask * 2 ^ ((64 - k) % 64) % 2 ^ 64)

turned_in : (mask k i : ℕ) → k < 64 → i < 64 → IsIn ((k + i) % 64) mask → IsIn i (turned mask k)
turned_in mask k i less few h = elim (cases_lt (k + i) 64) [ inl lt ↦ near lt | inr le ↦ far le ]
  where
    near : k + i < 64 → IsIn i (turned mask k)
    near lt =
        let same : (k + i) % 64 ≡ k + i = omega arith in
        in_first (mask / 2 ^ k) (mask * 2 ^ ((64 - k) % 64) % 2 ^ 64) i (turned_low mask k i ∙ ap (bit_at mask) (sym same) ∙ h)

    far : 64 ≤ k + i → IsIn i (turned mask k)
    far le =
        let up : ℕ = 64 - k in
        let low : ℕ = k + i - 64 in
        let same : (k + i) % 64 ≡ low = omega arith in
        let whole : (64 - k) % 64 ≡ up = omega arith in
        let there : i ≡ up + low = omega arith in
        in_second (mask / 2 ^ k) (mask * 2 ^ ((64 - k) % 64) % 2 ^ 64) i
        (ap (λ (j : ℕ). bit_at (mask * 2 ^ j % 2 ^ 64) i) whole ∙ ap (bit_at (mask * 2 ^ up % 2 ^ 64)) there
        ∙ turned_high mask up low (omega arith) ∙ ap (bit_at mask) (sym same) ∙ h)

-- ---- places

mark_few : (mark : Mark) → 24 + mark_number mark < 64
mark_few Alt = omega arith
mark_few Mailer = omega arith
mark_few Host = omega arith
mark_few User = omega arith
mark_few End = omega arith

text_few : (text : List ℕ) → text_place text < 64
text_few [] = omega arith
text_few (first ∷ rest) = omega arith

place_few : (token : Token) → place_of token < 64
place_few (Word text) = text_few text
place_few (Quoted text) = text_few text
place_few (Op byte) = text_few (byte ∷ [])
place_few (Sign mark) = mark_few mark

-- where a mask has the places of a token and of what stands before it, the token may follow
follows : (known : Option ℕ) (mask before : ℕ) (first : Token) → IsBefore known before → IsIn (place_of first) mask → IsIn (pair_place before (place_of first)) mask → IsIn (place_of first) (may_follow mask known)
follows None mask before first is here pair = here
follows (Some other) mask before first is here pair =
    let place : ℕ = place_of first in
    let k : ℕ = (other * 7 + 41) % 64 in
    let few = place_few first in
    let same : pair_place before place ≡ (k + place) % 64 = omega (arith, is) in
    let there : IsIn place (rotate_right w64 mask (other * 7 + 41)) = turned_in mask k place (omega arith) few (ap (bit_at mask) (sym same) ∙ pair) in
    omega (arith, here, there, bit_at_and mask (rotate_right w64 mask (other * 7 + 41)) place)

-- what stands before the tokens that are left behind so many of them
abbrev behind : ℕ → ℕ → List Token → ℕ
behind before zero tokens = before
behind before (suc n) [] = before
behind before (suc n) (token ∷ tokens) = behind (place_of token) n tokens

-- and what these have all have
left_in : (n before : ℕ) (tokens : List Token) (m : ℕ) → has m (places_from (behind before n tokens) (drop n tokens)) ≡ true → has m (places_from before tokens) ≡ true
left_in zero before tokens m h = h
left_in (suc n) before [] m h = h
left_in (suc n) before (token ∷ tokens) m h =
    let place : ℕ = place_of token in
    or_right (m == pair_place before place) (has m (place ∷ places_from place tokens)) (or_right (m == place) (has m (places_from place tokens)) (left_in n place tokens m h))

none_behind : (before n : ℕ) (tokens : List Token) → is_none (take n tokens) ≡ true → behind before n tokens ≡ before
none_behind before zero tokens h = refl
none_behind before (suc n) [] h = refl
none_behind before (suc n) (token ∷ tokens) h = absurd (true≢false (sym h))

same_behind : (before n : ℕ) (tokens : List Token) → same_tokens [] (take n tokens) ≡ true → behind before n tokens ≡ before
same_behind before zero tokens h = refl
same_behind before (suc n) [] h = refl
same_behind before (suc n) (token ∷ tokens) h = absurd (true≢false (sym h))

known_is : (token : Token) → IsBefore (known_place token) (place_of token)
known_is (Word text) = tt
known_is (Quoted text) = tt
known_is (Op byte) = refl
known_is (Sign mark) = tt

exact_behind : (token : Token) (before n : ℕ) (tokens : List Token) → same_tokens (token ∷ []) (take n tokens) ≡ true → IsBefore (known_place token) (behind before n tokens)
exact_behind token before zero tokens met = absurd (true≢false (sym met))
exact_behind token before (suc n) [] met = absurd (true≢false (sym met))
exact_behind token before (suc n) (first ∷ rest) met =
    let both = and_parts (same_token token first) (same_tokens [] (take n rest)) met in
    subst (IsBefore (known_place token)) (same_place token first both.0 ∙ sym (same_behind (place_of first) n rest both.1)) (known_is token)

-- ---- where a class has no such head, nothing fits

module _ (classes : Classes) (mask : ℕ) where
  -- the mask has the places of these tokens, behind what stands before them
  abbrev AllIn : ℕ → List Token → Type 0
  AllIn before tokens = (m : ℕ) → has m (places_from before tokens) ≡ true → IsIn m mask

  phrase_head : (members : List Member) (known : Option ℕ) (before n : ℕ) (tokens : List Token) → IsBefore known before → AllIn before tokens → meets (Phrase members) (take n tokens) ≡ true → not (bit_and (heads_of members) (may_follow mask known) == 0) ≡ true
  phrase_head members known before zero tokens is all met = absurd (true≢false (sym met))
  phrase_head members known before (suc n) [] is all met = absurd (true≢false (sym met))
  phrase_head members known before (suc n) (first ∷ rest) is all met =
      let place : ℕ = place_of first in
      let others : List ℕ = places_from place rest in
      let pair = pair_place before place in
      let one : (pair == pair) ≡ true = eq-eqb pair pair refl in
      let two : (place == place) ≡ true = eq-eqb place place refl in
      let has_pair : has pair (pair ∷ place ∷ others) ≡ true = ap (λ b. b || has pair (place ∷ others)) one in
      let has_place : has place (pair ∷ place ∷ others) ≡ true = or_right (place == pair) (has place (place ∷ others)) (ap (λ b. b || has place others) two) in
      common_place (heads_of members) (may_follow mask known) place (head_in members first (take n rest) met)
      (follows known mask before first is (all place has_place) (all pair has_pair))

  item_head : (late : List (List Token)) (item : Item) (known : Option ℕ) (before n : ℕ) (tokens : List Token) → IsBefore known before → AllIn before tokens → meets (want classes late item) (take n tokens) ≡ true → has_head mask classes known item ≡ true
  item_head late Any known before n tokens is all met = refl
  item_head late More known before n tokens is all met = refl
  item_head late One known before n tokens is all met = refl
  item_head late Empty known before n tokens is all met = refl
  item_head late (InClass name) known before n tokens is all met = phrase_head (members_of (value_at name classes)) known before n tokens is all met
  item_head late (NotInClass name) known before n tokens is all met = refl
  item_head late (Exact token) known before n tokens is all met = refl
  item_head late (Late name) known before n tokens is all met = refl

  item_behind : (late : List (List Token)) (item : Item) (known : Option ℕ) (before n : ℕ) (tokens : List Token) → IsBefore known before → meets (want classes late item) (take n tokens) ≡ true → IsBefore (place_behind known item) (behind before n tokens)
  item_behind late Any known before n tokens is met = tt
  item_behind late More known before n tokens is met = tt
  item_behind late One known before n tokens is met = tt
  item_behind late Empty known before n tokens is met = subst (IsBefore known) (sym (none_behind before n tokens met)) is
  item_behind late (InClass name) known before n tokens is met = tt
  item_behind late (NotInClass name) known before n tokens is met = tt
  item_behind late (Exact token) known before n tokens is met = exact_behind token before n tokens met
  item_behind late (Late name) known before n tokens is met = tt

  -- where items fit tokens, each class among them has a member that begins as one of the tokens
  -- does, behind what stands before that
  fits_heads : (late : List (List Token)) (items : List Item) (tokens : List Token) (lengths : List ℕ) → Fits (wants classes late items) tokens lengths → (known : Option ℕ) (before : ℕ) → IsBefore known before → AllIn before tokens → have_heads mask classes known items ≡ true
  fits_heads late [] tokens lengths fits known before is all = refl
  fits_heads late (item ∷ items) tokens [] fits known before is all = absurd fits
  fits_heads late (item ∷ items) tokens (n ∷ lengths) fits known before is all =
      and_from (has_head mask classes known item) (have_heads mask classes (place_behind known item) items)
      (item_head late item known before n tokens is all fits.1)
      (fits_heads (lists_after item late) items (drop n tokens) lengths fits.2 (place_behind known item) (behind before n tokens) (item_behind late item known before n tokens is fits.1)
      (λ m h. all m (left_in n before tokens m h)))

-- where a class has no member that begins as one of the tokens does, nothing fits
pub no_heads : (classes : Classes) (mask : ℕ) (tokens : List Token) (items : List Item) → mask ≡ mask_of tokens → have_heads mask classes (Some edge) items ≡ false
    → (late : List (List Token)) (lengths : List ℕ) → Fits (wants classes late items) tokens lengths → ⊥
no_heads classes mask tokens items is none late lengths fits =
    both_ways (have_heads mask classes (Some edge) items) none
    (fits_heads classes mask late items tokens lengths fits (Some edge) edge refl
    (λ m h. ap (λ w. bit_at w m) is ∙ mask_bit (places_of tokens) m ∙ ap one_if h))
