-- Numbers and times in lines (Sendmail Installation and Operation Guide, "O: Set Option"; the
-- greatest ones are our own).
use Rattle.std.specs.Prelude.{◌≡◌, ℕ, ◌-◌, ◌^◌, nat_le, if◌then◌else◌, List, [], ◌∷◌, Option, None, Some, unwrap_or, codes, refl}
use Rattle.cf_values.specs.Numbers.{number_value}
use Rattle.cf_values.specs.Times.{time_value}

-- a number that isn't above a limit
abbrev pub at_most : ℕ → Option ℕ → Option ℕ
at_most most None = None
at_most most (Some n) = if nat_le n most then Some n else None

-- the number that a text is, if it is one of at most so much
abbrev pub number_in : ℕ → List ℕ → Option ℕ
number_in most text = at_most most (number_value text)

-- the seconds that a text is, where a last number without a letter has this unit, if they are at
-- most 2^60
abbrev pub time_in : ℕ → List ℕ → Option ℕ
time_in unit text = at_most (2 ^ 60) (time_value unit text)

-- the greatest number of an option
unfoldable pub most_option : ℕ
most_option = 999_999_999

-- the greatest number of an M or a Q line: what 64 bits hold
unfoldable pub most_number : ℕ
most_number = 2 ^ 64 - 1

-- a value, if it isn't empty
abbrev pub if_some : List ℕ → Option (List ℕ)
if_some [] = None
if_some (b ∷ value) = Some (b ∷ value)

-- the number of a field's value, or 0
abbrev pub number_of : List ℕ → ℕ
number_of value = unwrap_or (number_in most_number value) 0

example : (number_in 99 (codes "099") ≡ Some 99) × (number_in 99 (codes "100") ≡ None)
example = (refl, refl)
