-- Where the first of some items that has a name stands, by a number that equal names have in
-- common.
use Rattle.std.specs.Prelude.{◌≡◌, ℕ, ◌+◌, ◌*◌, ◌%◌, ◌^◌, ◌<◌, List, [], Bool, true, false, ◌||◌, Option, None, Some, fold, nat_eq, slice_get, codes, refl}
use Rattle.std.specs.List.{list_any}
use Rattle.std.specs.Map.{lookup}
use Rattle.std.specs.Char.{to_ascii_lowercase}

-- the places that names are held for: one for each number, and those whose number was taken
pub record Held : Type 0 where
  pub index : List (ℕ × ℕ)
  pub others : List ℕ

abbrev pub none_held : Held
none_held = record { index = []; others = [] }

-- one byte more of a number, in any case
abbrev pub hash_step : ℕ → ℕ → ℕ
hash_step hash byte = (hash * 31 % 2 ^ 64 + to_ascii_lowercase byte) % 2 ^ 64

-- the number of a name, of its bytes in small letters
abbrev pub hash_of : List ℕ → ℕ
hash_of name = fold hash_step 0 name

-- the place is the one that was found, or among these
abbrev pub is_held : ℕ → Option ℕ → List ℕ → Bool
is_held place None others = list_any (nat_eq place) others
is_held place (Some found) others = nat_eq place found || list_any (nat_eq place) others

-- the place is held for a name
abbrev pub is_held_for : List ℕ → ℕ → Held → Bool
is_held_for name place held =
    is_held place (lookup (nat_eq (hash_of name)) held.index) held.others

-- what was held stays held
abbrev pub Keeps : Held → Held → Type 0
Keeps was now = (name : List ℕ) (place : ℕ) → is_held_for name place was ≡ true
    → is_held_for name place now ≡ true

-- what stands at a place is the first that passes
pub record IsFirstAt {X : Type 0} (test : X → Bool) (xs : List X) (place : ℕ) : Type 0 where
  pub one : X
  pub stands : slice_get xs place ≡ Some one
  pub passes : test one ≡ true
  pub before : (k : ℕ) (other : X) → k < place → slice_get xs k ≡ Some other → test other ≡ false

-- the place of the first item of each name is held for it
abbrev pub IsIndexed : {X : Type 0} → (List ℕ → X → Bool) → List X → Held → Type 0
IsIndexed has_name items held = (name : List ℕ) (place : ℕ)
    → IsFirstAt (has_name name) items place → is_held_for name place held ≡ true

-- the same of the items before a place
abbrev pub IsIndexedTo : {X : Type 0} → (List ℕ → X → Bool) → ℕ → List X → Held → Type 0
IsIndexedTo has_name end items held = (name : List ℕ) (place : ℕ) → place < end
    → IsFirstAt (has_name name) items place → is_held_for name place held ≡ true

-- an item that may be there passes
abbrev pub passes_at : {X : Type 0} → (X → Bool) → Option X → Bool
passes_at test None = false
passes_at test (Some one) = test one

-- the place was found, is held for the name, and its item has it
pub record IsFound {X : Type 0} (has_name : List ℕ → X → Bool) (items : List X) (held : Held) (name : List ℕ) (place : ℕ) : Type 0 where
  pub there : is_held_for name place held ≡ true
  pub named : passes_at (has_name name) (slice_get items place) ≡ true

example : hash_of (codes "Mx") ≡ hash_of (codes "mX")
example = refl
