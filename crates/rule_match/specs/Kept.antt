-- The cuts that a match keeps: those of the items that are written with a dollar sign (Sendmail
-- Operation Guide, R and S: rewriting rules).
use Rattle.std.specs.Prelude.{◌≡◌, ℕ, ◌+◌, List, [], ◌∷◌, take, drop, Bool, true, false, slice_get, unwrap_or, if◌then◌else◌}
use Rattle.mail_base.specs.declared.token.Token.{Token}
use Rattle.mail_base.specs.declared.classes.Classes.{Classes}
use Rattle.mail_base.specs.declared.rule.Item.{Item}
use Rattle.mail_base.specs.declared.rule.Item.TheVariants.{Any, More, One, InClass, NotInClass}
use Rattle.mail_base.specs.Metas.{is_meta}
use Rattle.rule_match.specs.declared.cuts.Cut.{Cut}
use Rattle.rule_match.specs.Wants.{wants}
use Rattle.rule_match.specs.Choices.{Chosen}

-- whether `$1` to `$9` count the item
abbrev pub is_binding : Item → Bool
is_binding Any = true
is_binding More = true
is_binding One = true
is_binding (InClass _) = true
is_binding (NotInClass _) = true
is_binding _ = false

-- of the cuts of these lengths, laid end to end from a place, those of the items written with `$`
abbrev pub kept_cuts : List Item → ℕ → List ℕ → List Cut
kept_cuts (item ∷ items) at (n ∷ lengths) =
    let later = kept_cuts items (at + n) lengths in
    if is_meta item
    then record { start = at; length = n; binds = is_binding item } ∷ later
    else later
kept_cuts _ at _ = []

-- the lengths of all items, with the others put in: an item that isn't written with `$` takes one
-- token
abbrev pub lengths_of : List Item → List Cut → List ℕ
lengths_of [] cuts = []
lengths_of (item ∷ items) [] = if is_meta item then [] else 1 ∷ lengths_of items []
lengths_of (item ∷ items) (cut ∷ cuts) =
    if is_meta item then cut.length ∷ lengths_of items cuts else 1 ∷ lengths_of items (cut ∷ cuts)

-- the cuts are those of the match that is taken
abbrev pub IsChoice : Classes → List (List Token) → List Item → List Token → List Cut → Type 0
IsChoice classes late items tokens cuts =
    (lengths : List ℕ) × Chosen (wants classes late items) tokens lengths
    × (cuts ≡ kept_cuts items 0 lengths)

-- the pieces of the binding items, in order
abbrev pub bound_pieces : List Item → List Token → List ℕ → List (List Token)
bound_pieces (item ∷ items) tokens (n ∷ lengths) =
    let later = bound_pieces items (drop n tokens) lengths in
    if is_binding item then take n tokens ∷ later else later
bound_pieces _ tokens _ = []

-- the tokens that `$n` stands for, where n counts from 1: none where so many items don't bind
abbrev pub bound_piece : List Item → List Token → List ℕ → ℕ → List Token
bound_piece items tokens lengths number =
    unwrap_or (slice_get ([] ∷ bound_pieces items tokens lengths) number) []
