-- Times in the values of options (Sendmail Installation and Operation Guide, "O: Set Option":
-- numbers with the letters s, m, h, d and w).
use Rattle.std.specs.Prelude.{◌≡◌, ◌≢◌, ℕ, ◌+◌, ◌*◌, ◌==◌, if◌then◌else◌, Option, Some, None, IsSome, unwrap_or, List, [], ◌∷◌, ◌++◌, All, sum_by, codes, refl}
use Rattle.std.specs.List.{flat_map}
use Rattle.cf_values.specs.declared.unit.TimeUnit.{TimeUnit}
use Rattle.cf_values.specs.declared.unit.TimeUnit.TheVariants.{Week, Day, Hour, Minute, Second}
use Rattle.cf_values.specs.Numbers.{IsDigit, is_digit, IsNumeral, value}

-- the letter of a unit: w, d, h, m or s
abbrev pub letter : TimeUnit → ℕ
letter Week = 119
letter Day = 100
letter Hour = 104
letter Minute = 109
letter Second = 115

-- the unit with this letter, if it is one
abbrev pub unit_of : ℕ → Option TimeUnit
unit_of byte =
    if byte == 119 then Some Week
    else if byte == 100 then Some Day
    else if byte == 104 then Some Hour
    else if byte == 109 then Some Minute
    else if byte == 115 then Some Second else None

-- a byte is the letter of a unit
abbrev pub IsLetter : ℕ → Type 0
IsLetter byte = IsSome (unit_of byte)

-- the unit that a last number has, by the letter that is told
abbrev pub last_unit : ℕ → TimeUnit
last_unit byte = unwrap_or (unit_of byte) Second

-- the seconds in a unit
abbrev pub seconds : TimeUnit → ℕ
seconds Week = 604800
seconds Day = 86400
seconds Hour = 3600
seconds Minute = 60
seconds Second = 1

-- a number with its letter
pub record Pair : Type 0 where
  pub digits : List ℕ
  pub unit : TimeUnit

-- a time as it is written: pairs, and then the digits of a number without a letter, or none
pub record Time : Type 0 where
  pub pairs : List Pair
  pub last : List ℕ

-- how a pair is written
abbrev pub pair_spelling : Pair → List ℕ
pair_spelling pair = pair.digits ++ letter pair.unit ∷ []

-- how a time is written
abbrev pub spelling : Time → List ℕ
spelling time = flat_map pair_spelling time.pairs ++ time.last

-- the seconds of a pair
abbrev pub pair_seconds : Pair → ℕ
pair_seconds pair = value pair.digits * seconds pair.unit

-- the seconds of a time, where a number without a letter has this unit
abbrev pub total : TimeUnit → Time → ℕ
total unit time = sum_by pair_seconds time.pairs + value time.last * seconds unit

-- the numbers of a time are digits, and each that has a letter has at least one
pub record IsProper (time : Time) : Type 0 where
  pub pairs : All (λ pair. IsNumeral pair.digits) time.pairs
  pub last : All IsDigit time.last

-- a text is a time, and how many seconds it is where a number without a letter has this unit
pub record IsTime (unit : TimeUnit) (text : List ℕ) (n : ℕ) : Type 0 where
  pub time : Time
  pub proper : IsProper time
  pub some : text ≢ []
  pub spelled : text ≡ spelling time
  pub number : n ≡ total unit time

-- so many seconds more
abbrev pub with_seconds : ℕ → Option ℕ → Option ℕ
with_seconds more None = None
with_seconds more (Some n) = Some (more + n)

-- the seconds of a unit behind digits and of the rest of a time, if there are a unit and digits
abbrev pub closed : Option TimeUnit → List ℕ → Option ℕ → Option ℕ
closed None digits rest = None
closed (Some unit) [] rest = None
closed (Some unit) (digit ∷ digits) rest = with_seconds (value (digit ∷ digits) * seconds unit) rest

-- the seconds of a number that begins with these digits, and of the rest of a time
unfoldable pub rest_value : TimeUnit → List ℕ → List ℕ → Option ℕ
rest_value last digits [] = Some (value digits * seconds last)
rest_value last digits (byte ∷ text) =
    if is_digit byte then rest_value last (digits ++ byte ∷ []) text
    else closed (unit_of byte) digits (rest_value last [] text)

-- the seconds of a time, computed, where a last number without a letter has the unit with this
-- letter; or none
abbrev pub time_value : ℕ → List ℕ → Option ℕ
time_value unit [] = None
time_value unit (byte ∷ text) = rest_value (last_unit unit) [] (byte ∷ text)

-- five days and six minutes
abbrev five_days_six : Time
five_days_six = record { pairs = record { digits = codes "5"; unit = Day } ∷ []; last = codes "6" }

example : (spelling five_days_six ≡ codes "5d6") × (total Minute five_days_six ≡ 432360)
    × (time_value 109 (codes "5d6") ≡ Some 432360) × (time_value 109 (codes "5dd") ≡ None)
unfolding rest_value
example = (refl, refl, refl, refl)
