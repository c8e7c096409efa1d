-- What a message's headers say (RFC 5322, sections 2.2, 3.6.1 and 3.6.7; RFC 5321, section 6.3;
-- Sendmail Installation and Operation Guide, "P: Precedence Definitions").
use Rattle.std.specs.Prelude.{◌≡◌, ℕ, ℤ, pos, ◌-◌, slice_index, ◌==◌, Bool, List, [], ◌∷◌, length, take, Option, Some, None, option_map, option_and_then, unwrap_or, find, count_by, if◌then◌else◌, codes, refl}
use Rattle.std.specs.List.{before_first, after_first}
use Rattle.std.specs.Str.{str_eq_ignore_ascii_case}
use Rattle.mail_base.specs.Texts.{trimmed}
use Rattle.mail_base.specs.Whites.{stripped}
use Rattle.mail_base.specs.declared.lines.Precedence.{Precedence}
use Rattle.cf_macros.specs.declared.form.Form.TheVariants.{Mail}
use Rattle.cf_macros.specs.Dates.{IsDateText}

abbrev pub is_colon : ℕ → Bool
is_colon b = b == 58

-- the name of a header stands before its first colon, its value behind that
abbrev pub name_of : List ℕ → List ℕ
name_of header = before_first is_colon header

abbrev pub value_of : List ℕ → List ℕ
value_of header = after_first is_colon header

-- a header has this name, whatever its case
abbrev pub is_named : List ℕ → List ℕ → Bool
is_named name header = str_eq_ignore_ascii_case (name_of header) name

abbrev pub is_feed : ℕ → Bool
is_feed b = b == 10

abbrev pub without_return : List ℕ → List ℕ
without_return text =
    if slice_index text (length text - 1) == 13 then take (length text - 1) text else text

-- the first line of a value, without its LF and a CR before that
abbrev pub first_line : List ℕ → List ℕ
first_line value = without_return (before_first is_feed value)

-- how many hosts a message has passed: each puts a header Received
abbrev pub hops_of : List (List ℕ) → ℕ
hops_of headers = count_by (is_named (codes "Received")) headers

-- the class of a name: that of the first P line which has it, whatever its case
abbrev pub class_named : List Precedence → List ℕ → Option ℤ
class_named lines name =
    option_map (λ line. line.class) (find (λ line. str_eq_ignore_ascii_case line.name name) lines)

-- the class that a header gives, if it is a Precedence whose value, without the white space at its
-- ends, names a P line
abbrev pub class_told : List Precedence → List ℕ → Option ℤ
class_told lines header = if is_named (codes "Precedence") header
    then class_named lines (stripped (value_of header)) else None

-- the class of a message: the first that a header gives, or 0
abbrev pub class_in : List Precedence → List (List ℕ) → ℤ
class_in lines [] = pos 0
class_in lines (header ∷ headers) = unwrap_or (class_told lines header) (class_in lines headers)

abbrev pub some_text : List ℕ → Option (List ℕ)
some_text [] = None
some_text (b ∷ text) = Some (b ∷ text)

-- the date that the first header Date has in its value's first line, unless that is empty
abbrev pub date_told : List (List ℕ) → Option (List ℕ)
date_told headers = option_and_then (λ header. some_text (trimmed (first_line (value_of header))))
    (find (is_named (codes "Date")) headers)

-- the date of a message: what it says, or else the moment at which it was created
abbrev pub IsDate : Option (List ℕ) → ℕ → List ℕ → Type 0
IsDate None created text = IsDateText Mail created text
IsDate (Some told) created text = text ≡ told

example : (name_of (codes "To: a:b ") ≡ codes "To") × (value_of (codes "To: a:b ") ≡ codes " a:b ")
    × (first_line (97 ∷ 13 ∷ 10 ∷ 32 ∷ 98 ∷ []) ≡ codes "a")
example = (refl, refl, refl)
