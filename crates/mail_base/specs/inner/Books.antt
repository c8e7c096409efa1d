-- What stands behind a book: where the rulesets of a name stand.
use Rattle.std.specs.Prelude.{◌≡◌, ℕ, List, true, Some, slice_get}
use Rattle.mail_base.specs.Places.{Held, is_held_for}
use Rattle.mail_base.specs.Rulesets.{Ruled, is_named}

-- each ruleset is held for each of its names
abbrev pub HoldsAll : List Ruled → Held → Type 0
HoldsAll sets held = (name : List ℕ) (place : ℕ) (set : Ruled) → slice_get sets place ≡ Some set
    → is_named name set ≡ true → is_held_for name place held ≡ true
