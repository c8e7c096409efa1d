-- Values by their names, as the list of their pairs in the order in which the names were first
-- set.
use Rattle.std.specs.Prelude.{◌≡◌, ◌≢◌, ℕ, List, [], ◌∷◌, Option, None, Some, bytes_eq, codes, refl}
use Rattle.std.specs.Map.{lookup, remove_entry}
use Rattle.std.specs.Str.{str_eq_ignore_ascii_case}
use Rattle.indexmap.specs.IndexMap.{insert_entry}

module _ {V : Type 0} where
  -- the value of the first pair with that name
  abbrev pub value_at : List ℕ → List (List ℕ × V) → Option V
  value_at name pairs = lookup (bytes_eq name) pairs

  -- the value of the first pair with that name without ascii case
  abbrev pub value_like : List ℕ → List (List ℕ × V) → Option V
  value_like name pairs = lookup (str_eq_ignore_ascii_case name) pairs

  -- the pairs, with that value at that name: in its place, or last where the name is new
  abbrev pub with_value : List ℕ → V → List (List ℕ × V) → List (List ℕ × V)
  with_value name value pairs = insert_entry bytes_eq pairs name value

  -- the pairs without the first of that name
  abbrev pub without_name : List ℕ → List (List ℕ × V) → List (List ℕ × V)
  without_name name pairs = remove_entry (bytes_eq name) pairs

  -- one name has that value, and each other name has the value that it had
  pub record SetsValue (name : List ℕ) (wanted : Option V) (old new : List (List ℕ × V))
      : Type 0 where
    pub value : value_at name new ≡ wanted
    pub others : (other : List ℕ) → other ≢ name → value_at other new ≡ value_at other old

module _ {M : Type 0} where
  -- the members of a class; a class that isn't there has none
  abbrev pub members_of : Option (List M) → List M
  members_of None = []
  members_of (Some members) = members

example :
    with_value {V = ℕ} (codes "a") 3 ((codes "a", 1) ∷ (codes "b", 2) ∷ [])
    ≡ (codes "a", 3) ∷ (codes "b", 2) ∷ []
example = refl
