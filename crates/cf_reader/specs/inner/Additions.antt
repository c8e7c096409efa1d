-- A list that has grown (our own).
use Rattle.std.specs.Prelude.{◌≡◌, List, ◌++◌}

module _ {V : Type 0} where
  -- what a list was stands first in it
  abbrev pub HasFront : List V → List V → Type 0
  HasFront old new = (more : List V) × (new ≡ old ++ more)
