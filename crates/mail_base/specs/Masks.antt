-- What a left side wants of the tokens that it matches, as bits of a word (our own): each token has
-- one of 64 places, and so have each two that stand side by side, and the ends of the list.
use Rattle.std.specs.Prelude.{◌≡◌, ℕ, ◌+◌, ◌*◌, ◌%◌, ◌^◌, ◌≤◌, ◌<◌, List, [], ◌∷◌, ◌++◌, Bool, true, false, ◌==◌, Option, None, Some, bit_and, bit_or, fold, length, slice_get, codes, if◌then◌else◌, refl}
use Rattle.std.specs.List.{flat_map, list_any}
use Rattle.mail_base.specs.Metas.{is_late}
use Rattle.mail_base.specs.Texts.{text_place}
use Rattle.mail_base.specs.Tokens.{mark_number}
use Rattle.mail_base.specs.declared.rule.Item.{Item}
use Rattle.mail_base.specs.declared.rule.Item.TheVariants.{Any, Empty, Exact}
use Rattle.mail_base.specs.declared.rule.Rule.{Rule}
use Rattle.mail_base.specs.declared.class.Member.{Member}
use Rattle.mail_base.specs.declared.token.Token.{Token}
use Rattle.mail_base.specs.declared.token.Token.TheVariants.{Word, Quoted, Op, Sign}

-- the place of a token; the same tokens have the same
abbrev pub place_of : Token → ℕ
place_of (Word text) = text_place text
place_of (Quoted text) = text_place text
place_of (Op byte) = text_place (byte ∷ [])
place_of (Sign mark) = 24 + mark_number mark

-- the place of two neighbours, by theirs, and what stands for an end of the list as a neighbour
abbrev pub pair_place : ℕ → ℕ → ℕ
pair_place before place = (before * 7 + place + 41) % 64

abbrev pub edge : ℕ
edge = 40

-- the places of tokens and of their neighbours, behind what has this place
abbrev pub places_from : ℕ → List Token → List ℕ
places_from before [] = pair_place before edge ∷ []
places_from before (token ∷ tokens) =
    pair_place before (place_of token) ∷ place_of token ∷ places_from (place_of token) tokens

-- the places that tokens have
abbrev pub places_of : List Token → List ℕ
places_of tokens = places_from edge tokens

-- the place with what stands before it, where that is known
abbrev pub pair_places : Option ℕ → ℕ → List ℕ
pair_places None place = []
pair_places (Some before) place = pair_place before place ∷ []

-- the places that any tokens have which items match, behind what may be known
abbrev pub wanted_from : Option ℕ → List Item → List ℕ
wanted_from before [] = pair_places before edge
wanted_from before (Exact token ∷ items) =
    pair_places before (place_of token)
    ++ place_of token ∷ wanted_from (Some (place_of token)) items
wanted_from before (Empty ∷ items) = wanted_from before items
wanted_from before (item ∷ items) = wanted_from None items

-- the places that a left side wants; none with a `$&x`, whose value may be one that can't be cut
abbrev pub wanted : List Item → List ℕ
wanted items = if list_any is_late items then [] else wanted_from (Some edge) items

-- a mask with one place more
abbrev pub with_place : ℕ → ℕ → ℕ
with_place mask place = bit_or mask (2 ^ place)

abbrev pub with_places : ℕ → List ℕ → ℕ
with_places mask places = fold with_place mask places

-- the mask of tokens, and that of a left side
abbrev pub mask_of : List Token → ℕ
mask_of tokens = with_places 0 (places_of tokens)

abbrev pub wanted_mask : List Item → ℕ
wanted_mask items = with_places 0 (wanted items)

-- one mask has all places of another
abbrev pub covers : ℕ → ℕ → Bool
covers mask wanted = bit_and wanted mask == wanted

-- the first rule from a number on whose left side wants no other places than a mask has
pub record IsNextCovered (rules : List Rule) (from mask : ℕ) (number : ℕ) : Type 0 where
  pub above : from ≤ number
  pub within : number < length rules
  pub covered : (rule : Rule) → slice_get rules number ≡ Some rule
      → covers mask (wanted_mask rule.left) ≡ true
  pub first : (k : ℕ) (other : Rule) → from ≤ k → k < number → slice_get rules k ≡ Some other
      → covers mask (wanted_mask other.left) ≡ false

-- the place of the first token of a member, if it has any
abbrev pub head_places : Option (List Token) → List ℕ
head_places None = []
head_places (Some []) = []
head_places (Some (token ∷ tokens)) = place_of token ∷ []

-- the places of the first tokens of members, and the mask of those
abbrev pub heads : List Member → List ℕ
heads members = flat_map (λ member. head_places member.tokens) members

abbrev pub heads_of : List Member → ℕ
heads_of members = with_places 0 (heads members)

example :
    (covers (mask_of (Word (codes "ann") ∷ Op 64 ∷ Word (codes "mx") ∷ []))
    (wanted_mask (Any ∷ Exact (Op 64) ∷ Exact (Word (codes "MX")) ∷ [])) ≡ true)
    × (covers (mask_of (Word (codes "ann") ∷ Op 64 ∷ Word (codes "mx") ∷ []))
    (wanted_mask (Any ∷ Exact (Op 33) ∷ Any ∷ [])) ≡ false)
    × (wanted_mask (Empty ∷ []) ≡ mask_of [])
example = (refl, refl, refl)
