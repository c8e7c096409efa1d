-- What stands behind a class: its members by their texts, and its phrases by their tokens.
use Rattle.std.specs.Prelude.{◌≡◌, ◌==◌, ℕ, List, [], ◌∷◌, Bool, true, Vec, fold, length, take}
use Rattle.std.specs.Int.{bit_at}
use Rattle.std.specs.List.{list_any}
use Rattle.mail_base.specs.Classes.{is_phrase}
use Rattle.mail_base.specs.Masks.{head_places, place_of, with_places}
use Rattle.mail_base.specs.Tokens.{same_tokens}
use Rattle.mail_base.specs.declared.class.Member.{Member}
use Rattle.mail_base.specs.declared.token.Token.{Token}

-- whether the tokens are a phrase of these
abbrev pub is_among : {A : Type 0} → List (Vec Token A) → List Token → Bool
is_among phrases tokens = list_any (λ phrase. same_tokens tokens phrase.items) phrases

-- the phrases are those of the members
abbrev pub HasPhrases : {A : Type 0} → List (Vec Token A) → List Member → Type 0
HasPhrases phrases members =
    (tokens : List Token) → is_among phrases tokens ≡ is_phrase tokens members

-- a mask with the places of first tokens besides, member by member
abbrev pub heads_from : ℕ → List Member → ℕ
heads_from mask members =
    fold (λ m member. with_places m (head_places member.tokens)) mask members

-- whether a mask has the place of the first token, if there is one
abbrev pub may_begin : ℕ → List Token → Bool
may_begin mask [] = true
may_begin mask (token ∷ tokens) = bit_at mask (place_of token) == 1

-- a list has grown at its end, or stayed
abbrev pub Keeps : {K : Type 0} → List K → List K → Type 0
Keeps old new = take (length old) new ≡ old
