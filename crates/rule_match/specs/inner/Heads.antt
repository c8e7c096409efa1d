-- Whether a class has a member that may begin among tokens, behind what stands before it; only
-- private contracts cite it.
use Rattle.std.specs.Prelude.{ℕ, ◌+◌, ◌*◌, List, [], ◌∷◌, Bool, true, ◌==◌, ◌&&◌, not, bit_and, Option, None, Some}
use Rattle.std.specs.Int.{rotate_right, w64}
use Rattle.mail_base.specs.Catalogs.{value_at, members_of}
use Rattle.mail_base.specs.Masks.{heads_of, place_of}
use Rattle.mail_base.specs.declared.classes.Classes.{Classes}
use Rattle.mail_base.specs.declared.rule.Item.{Item}
use Rattle.mail_base.specs.declared.rule.Item.TheVariants.{Empty, Exact, InClass}
use Rattle.mail_base.specs.declared.token.Token.{Token}
use Rattle.mail_base.specs.declared.token.Token.TheVariants.{Op}

-- the place of an operator; that of any other token isn't asked for
abbrev pub known_place : Token → Option ℕ
known_place (Op byte) = Some (place_of (Op byte))
known_place _ = None

-- the place of what stands before the next item, where that is known, by what stands before this
abbrev pub place_behind : Option ℕ → Item → Option ℕ
place_behind before (Exact token) = known_place token
place_behind before Empty = before
place_behind before _ = None

-- the places that the mask has, and with each that of the pair of what stands before and it: the
-- places of such pairs are those of the second tokens, turned by a number
abbrev pub may_follow : ℕ → Option ℕ → ℕ
may_follow mask None = mask
may_follow mask (Some before) = bit_and mask (rotate_right w64 mask (before * 7 + 41))

-- the first token of a member of the item's class, behind what stands before it, has places that
-- the mask has; any other item has no class that counts
abbrev pub has_head : ℕ → Classes → Option ℕ → Item → Bool
has_head mask classes before (InClass name) =
    not (bit_and (heads_of (members_of (value_at name classes))) (may_follow mask before) == 0)
has_head mask classes before _ = true

-- the same of each item, behind what stands before the first
abbrev pub have_heads : ℕ → Classes → Option ℕ → List Item → Bool
have_heads mask classes before [] = true
have_heads mask classes before (item ∷ items) =
    has_head mask classes before item
    && have_heads mask classes (place_behind before item) items
