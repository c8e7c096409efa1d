-- The entries of a store in order of id, with room for more (own).
use Rattle.std.specs.Prelude.{◌≡◌, ℕ, ◌<◌, List, length, AllPairs, get_or}
use Rattle.spool_store.specs.declared.held.Held.{Held}

-- directories, entries in them with reserved room, and the first free id
pub record Shelved : Type 0 where
  pub dirs : List (List ℕ)
  pub items : List Held
  pub next : ℕ
  pub room : ℕ

-- each id is less than those behind it
abbrev pub IsAscending : List Held → Type 0
IsAscending items = AllPairs (λ one another. one.entry.id < another.entry.id) items

-- the place of an id among entries
pub record IsPlaceOf (items : List Held) (id place : ℕ) : Type 0 where
  pub within : place < length items
  pub has : (d : Held) → (get_or items place d).entry.id ≡ id
