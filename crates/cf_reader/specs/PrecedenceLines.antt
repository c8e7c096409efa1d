-- P lines, by what follows the letter (Sendmail Installation and Operation Guide, "P: Precedence
-- Definitions"; the least and the greatest number are our own).
use Rattle.std.specs.Prelude.{◌≡◌, ℕ, Bool, ◌==◌, if◌then◌else◌, is_none, List, [], ◌∷◌, Option, None, Some, option_map, unwrap_or, ℤ, pos, neg_ℤ, codes, refl}
use Rattle.mail_base.specs.declared.lines.Precedence.{Precedence}
use Rattle.cf_reader.specs.declared.fault.Fault.{Fault}
use Rattle.cf_reader.specs.declared.fault.Fault.TheVariants.{BadOption}
use Rattle.cf_reader.specs.Reads.{first_fault}
use Rattle.cf_reader.specs.Fields.{split_at}
use Rattle.cf_reader.specs.Values.{number_in}

-- the number below 0 of that magnitude
abbrev pub below_zero : ℕ → ℤ
below_zero n = neg_ℤ (pos n)

-- digits, behind a minus sign (45) or without one, of a number from -1,000,000 to 1,000,000
abbrev pub class_value : List ℕ → Option ℤ
class_value [] = None
class_value (b ∷ text) =
    if b == 45 then option_map below_zero (number_in 1_000_000 text)
    else option_map pos (number_in 1_000_000 (b ∷ text))

-- what stands behind the first `=` (61) is no such number
abbrev pub is_bad_precedence : List ℕ → Bool
is_bad_precedence text = is_none (class_value (split_at 61 text).1)

-- the fault of a P line, if it has one
abbrev pub fault_of_precedence : List ℕ → Option Fault
fault_of_precedence text = first_fault ((BadOption, is_bad_precedence text) ∷ [])

-- what a P line without a fault says
abbrev pub precedence_of : List ℕ → Precedence
precedence_of text = record {
  name = (split_at 61 text).0;
  class = unwrap_or (class_value (split_at 61 text).1) (pos 0);
}

example :
    (precedence_of (codes "bulk=-60") ≡ record { name = codes "bulk"; class = below_zero 60 })
    × (fault_of_precedence (codes "bulk=-60") ≡ None)
    × (fault_of_precedence (codes "bulk=+60") ≡ Some BadOption)
    × (fault_of_precedence (codes "bulk=1000001") ≡ Some BadOption)
    × (fault_of_precedence (codes "bulk") ≡ Some BadOption)
example = (refl, refl, refl, refl, refl)
