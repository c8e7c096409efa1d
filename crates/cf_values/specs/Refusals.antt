-- Why a value is refused, and at which place (Sendmail Installation and Operation Guide, "O: Set
-- Option"; the places are our own).
use Rattle.std.specs.Prelude.{◌≡◌, ℕ, ◌+◌, ◌<◌, List, [], ◌++◌, length, take}

-- some text that means a number begins with these bytes
abbrev pub Begins : (List ℕ → ℕ → Type 0) → List ℕ → Type 0
Begins Means front = (rest : List ℕ) × (n : ℕ) × Means (front ++ rest) n

-- the place of the first byte that isn't in the grammar: a text of it begins with the bytes before,
-- and none with this byte too
pub record IsFirstBad (Means : List ℕ → ℕ → Type 0) (text : List ℕ) (place : ℕ) : Type 0 where
  pub within : place < length text
  pub before : Begins Means (take place text)
  pub with_it : ¬ Begins Means (take (place + 1) text)

-- a value is refused at this place: at its first bad byte, or at its length where it is empty or
-- its number is above the most
pub data IsRefused (Means : List ℕ → ℕ → Type 0) (most : ℕ) (text : List ℕ)
    (place : ℕ) : Type 0 where
  bad_byte : IsFirstBad Means text place → IsRefused Means most text place
  empty : text ≡ [] → place ≡ length text → IsRefused Means most text place
  above : (n : ℕ) → Means text n → most < n → place ≡ length text → IsRefused Means most text place
