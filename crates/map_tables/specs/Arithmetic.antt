-- Arithmetic (Sendmail Installation and Operation Guide, K: the class arith).
use Rattle.std.specs.Prelude.{◌≡◌, ◌==◌, ◌+◌, ◌-◌, ◌*◌, ◌^◌, ℕ, Bool, true, false, nat_lt, nat_le, ℤ, pos, negsuc, ◌+ℤ◌, ◌-ℤ◌, ◌*ℤ◌, neg_ℤ, int_div, int_rem, int_lt, bit_and, bit_or, List, [], ◌∷◌, Option, None, Some, option_map, drop, length, slice_get, slice_index, if◌then◌else◌, codes, refl}
use Rattle.std.specs.Fmt.{digits, signed_decimal}
use Rattle.std.specs.Ordering.{int_eq}
use Rattle.std.specs.Int.{w64, cast_signed, cast_unsigned}
use Rattle.std.specs.Str.{all_ascii_digits}
use Rattle.map_tables.specs.Marks.{begins_with}

-- the number that digits write, read on after the number so far
unfoldable pub number_from : ℕ → List ℕ → ℕ
number_from number [] = number
number_from number (digit ∷ rest) = number_from (number * 10 + (digit - 48)) rest

-- a number without a sign: digits, at least one, of which the first may be zeros
abbrev pub natural : List ℕ → Option ℕ
natural [] = None
natural (digit ∷ rest) =
    if all_ascii_digits (digit ∷ rest) then Some (number_from 0 (digit ∷ rest)) else None

-- a number from 0 on, which an i64 holds
abbrev pub from_zero : Option ℕ → Option ℤ
from_zero None = None
from_zero (Some number) = if nat_lt number (2 ^ 63) then Some (pos number) else None

-- the number below 0 of that magnitude, which an i64 holds
abbrev pub below_zero : Option ℕ → Option ℤ
below_zero None = None
below_zero (Some number) = if nat_le number (2 ^ 63) then Some (neg_ℤ (pos number)) else None

-- a number of 64 bits: a minus sign (45) may stand before its digits
abbrev pub integer : List ℕ → Option ℤ
integer text =
    if begins_with 45 text then below_zero (natural (drop 1 text)) else from_zero (natural text)

-- a number of 64 bits, or none
abbrev pub fitting : ℤ → Option ℤ
fitting (pos n) = if nat_lt n (2 ^ 63) then Some (pos n) else None
fitting (negsuc n) = if nat_lt n (2 ^ 63) then Some (negsuc n) else None

-- what a function of bits makes of two numbers in their two's complement forms
abbrev pub by_bits : (ℕ → ℕ → ℕ) → ℤ → ℤ → ℤ
by_bits joined left right =
    cast_signed w64 (joined (cast_unsigned w64 left) (cast_unsigned w64 right))

-- what is divided by something, unless that is 0
abbrev pub divided : ℤ → Option ℤ → Option ℤ
divided by result = if int_eq by (pos 0) then None else result

-- the number that an operator makes of two: + - * / % & and |, of which / and % go towards 0
abbrev pub number_by : ℕ → ℤ → ℤ → Option ℤ
number_by operator left right =
    if operator == 43 then fitting (left +ℤ right)
    else if operator == 45 then fitting (left -ℤ right)
    else if operator == 42 then fitting (left *ℤ right)
    else if operator == 47 then divided right (fitting (int_div left right))
    else if operator == 37 then divided right (Some (int_rem left right))
    else if operator == 38 then Some (by_bits bit_and left right)
    else if operator == 124 then Some (by_bits bit_or left right)
    else None

-- what an operator says of two numbers: l, that the first is less, and =
abbrev pub truth_by : ℕ → ℤ → ℤ → Option Bool
truth_by operator left right =
    if operator == 108 then Some (int_lt left right)
    else if operator == 61 then Some (int_eq left right)
    else None

-- how a truth value is written
abbrev pub truth_text : Bool → List ℕ
truth_text true = codes "TRUE"
truth_text false = codes "FALSE"

-- how a result is written, a number or else a truth value
abbrev pub result_text : Option ℤ → Option Bool → Option (List ℕ)
result_text (Some number) truth = Some (signed_decimal number)
result_text None truth = option_map truth_text truth

-- the operator that a key names, if it is one byte
abbrev pub operator_of : List ℕ → Option ℕ
operator_of key = if length key == 1 then Some (slice_index key 0) else None

-- the number that an argument writes, if there is one
abbrev pub read_number : Option (List ℕ) → Option ℤ
read_number None = None
read_number (Some text) = integer text

-- what an operator gives of two numbers, where all three are there
abbrev pub applied : Option ℕ → Option ℤ → Option ℤ → Option (List ℕ)
applied (Some operator) (Some left) (Some right) =
    result_text (number_by operator left right) (truth_by operator left right)
applied (Some operator) (Some left) None = None
applied (Some operator) None right = None
applied None left right = None

-- the key is the operator, and the first two arguments are the numbers
abbrev pub calculated : List ℕ → List (List ℕ) → Option (List ℕ)
calculated key args =
    applied (operator_of key) (read_number (slice_get args 0)) (read_number (slice_get args 1))

seven_by_two : List (List ℕ)
seven_by_two = codes "-7" ∷ codes "2" ∷ []

example : (calculated (codes "/") seven_by_two ≡ Some (codes "-3"))
    × (calculated (codes "%") seven_by_two ≡ Some (codes "-1"))
    × (calculated (codes "|") seven_by_two ≡ Some (codes "-5"))
    × (calculated (codes "l") seven_by_two ≡ Some (codes "TRUE"))
unfolding seven_by_two number_from digits
example = (refl, refl, refl, refl)
