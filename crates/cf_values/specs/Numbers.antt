-- Numbers in the values of options (Sendmail Installation and Operation Guide, "O: Set Option").
use Rattle.std.specs.Prelude.{◌≡◌, ◌≢◌, ℕ, ◌+◌, ◌-◌, ◌*◌, ◌^◌, ◌≤◌, nat_le, Bool, ◌&&◌, if◌then◌else◌, Option, Some, None, List, [], ◌∷◌, length, All, codes, refl}
use Rattle.std.specs.List.{list_all}

-- a digit
abbrev pub IsDigit : ℕ → Type 0
IsDigit byte = (48 ≤ byte) × (byte ≤ 57)

-- the same, as a test
abbrev pub is_digit : ℕ → Bool
is_digit byte = nat_le 48 byte && nat_le byte 57

-- the number that digits write: each counts ten times as much as the one behind it
abbrev pub value : List ℕ → ℕ
value [] = 0
value (digit ∷ digits) = (digit - 48) * 10 ^ length digits + value digits

-- digits, at least one, of which the first may be zeros
pub record IsNumeral (text : List ℕ) : Type 0 where
  pub some : text ≢ []
  pub digits : All IsDigit text

-- a text is a number, and which
pub record IsNumber (text : List ℕ) (n : ℕ) : Type 0 where
  pub numeral : IsNumeral text
  pub number : n ≡ value text

-- the number that a text is, computed, or none
abbrev pub number_value : List ℕ → Option ℕ
number_value [] = None
number_value (digit ∷ digits) =
    if list_all is_digit (digit ∷ digits) then Some (value (digit ∷ digits)) else None

example : (number_value (codes "0120") ≡ Some 120) × (number_value (codes "12x") ≡ None)
example = (refl, refl)
