-- A phrase of a class begins with a token whose place is among those of the members' first tokens.
use Rattle.std.proofs.Common.{◌≡◌, ℕ, ◌^◌, ◌==◌, List, [], ◌∷◌, Bool, true, false, Option, None, Some, refl, sym, subst, arith}
use Rattle.std.specs.Prelude.{◌||◌}
use Rattle.std.specs.Int.{bit_at}
use Rattle.std.proofs.lemmas.Bool.{and_parts, both_ways, eq-eqb, true≢false}
use Rattle.std.proofs.lemmas.List.Sums.{fold-append}
use Rattle.std.proofs.lemmas.Nat.Bits.{bit_at_or, bit_at-pow_same, bit_at-lt}
use Rattle.mail_base.proofs.TokenPlaces.{same_place}
use Rattle.mail_base.specs.Classes.{is_cut_into, is_phrase}
use Rattle.mail_base.specs.Masks.{place_of, with_place, with_places, head_places, heads, heads_of}
use Rattle.mail_base.specs.Tokens.{same_token, same_tokens}
use Rattle.mail_base.specs.inner.Phrases.{may_begin}
use Rattle.mail_base.specs.declared.class.Member.{Member}
use Rattle.mail_base.specs.declared.token.Token.{Token}

-- ---- the places of a mask

-- a mask has the bit of a place
abbrev pub IsIn : ℕ → ℕ → Type 0
IsIn place mask = bit_at mask place ≡ 1

-- a mask has the place that is put in
pub put_place : (mask place : ℕ) → IsIn place (with_place mask place)
put_place mask place = omega (arith, bit_at_or mask (2 ^ place) place, bit_at-pow_same place, bit_at-lt mask place)

keep_place : (mask more place : ℕ) → IsIn place mask → IsIn place (with_place mask more)
keep_place mask more place h = omega (arith, h, bit_at_or mask (2 ^ more) place, bit_at-lt (2 ^ more) place)

-- and keeps those that it has
pub keep_places : (places : List ℕ) (mask place : ℕ) → IsIn place mask → IsIn place (with_places mask places)
keep_places [] mask place h = h
keep_places (more ∷ places) mask place h = keep_places places (with_place mask more) place (keep_place mask more place h)

-- ---- the first token of a phrase has the place of a member's

put_head : (tokens : Option (List Token)) (mask : ℕ) (first : Token) (rest : List Token) → is_cut_into (first ∷ rest) tokens ≡ true → IsIn (place_of first) (with_places mask (head_places tokens))
put_head None mask first rest h = absurd (true≢false (sym h))
put_head (Some []) mask first rest h = absurd (true≢false (sym h))
put_head (Some (token ∷ tokens)) mask first rest h =
    let same = same_place first token (and_parts (same_token first token) (same_tokens rest tokens) h).0 in
    subst (λ (place : ℕ). IsIn place (with_place mask (place_of token))) (sym same) (put_place mask (place_of token))

head_from : (members : List Member) (mask : ℕ) (first : Token) (rest : List Token) → is_phrase (first ∷ rest) members ≡ true → IsIn (place_of first) (with_places mask (heads members))
head_from [] mask first rest h = absurd (true≢false (sym h))
head_from (member ∷ members) mask first rest h =
    subst (IsIn (place_of first)) (sym (fold-append with_place mask (head_places member.tokens) (heads members)))
    (by (is_cut_into (first ∷ rest) member.tokens) refl h (λ k. head_from members (with_places mask (head_places member.tokens)) first rest k))
  where
    by : (b : Bool) → is_cut_into (first ∷ rest) member.tokens ≡ b → (b || is_phrase (first ∷ rest) members) ≡ true → (is_phrase (first ∷ rest) members ≡ true → IsIn (place_of first) (with_places (with_places mask (head_places member.tokens)) (heads members)))
        → IsIn (place_of first) (with_places (with_places mask (head_places member.tokens)) (heads members))
    by true e k go = keep_places (heads members) (with_places mask (head_places member.tokens)) (place_of first) (put_head member.tokens mask first rest e)
    by false e k go = go k

-- the place of a phrase's first token is among those of the members' first tokens
pub head_in : (members : List Member) (first : Token) (rest : List Token) → is_phrase (first ∷ rest) members ≡ true → IsIn (place_of first) (heads_of members)
head_in members = head_from members 0

-- tokens that begin as no member does are no phrase
pub no_phrase : (members : List Member) (tokens : List Token) → may_begin (heads_of members) tokens ≡ false → is_phrase tokens members ≡ false
no_phrase members [] none = absurd (true≢false none)
no_phrase members (first ∷ rest) none = by (is_phrase (first ∷ rest) members) refl
  where
    by : (b : Bool) → is_phrase (first ∷ rest) members ≡ b → b ≡ false
    by false e = refl
    by true e = absurd (both_ways (bit_at (heads_of members) (place_of first) == 1) none (eq-eqb (bit_at (heads_of members) (place_of first)) 1 (head_in members first rest e)))
