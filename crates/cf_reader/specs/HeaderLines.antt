-- H lines, by what follows the letter (Sendmail Installation and Operation Guide, "H: Define
-- Header"; that blanks at both ends of the name go is our own).
use Rattle.std.specs.Prelude.{◌≡◌, ◌==◌, ◌||◌, ◌++◌, ℕ, Bool, true, not, nat_eq, is_some, List, [], ◌∷◌, Option, None, Some, if◌then◌else◌, codes, refl}
use Rattle.std.specs.List.{starts_with}
use Rattle.mail_base.specs.Texts.{without_blanks}
use Rattle.mail_base.specs.declared.lines.HeaderLine.{HeaderLine}
use Rattle.cf_values.specs.Flags.{flags_of}
use Rattle.cf_reader.specs.Cuts.{cut_at}
use Rattle.cf_reader.specs.Reads.{first_fault}
use Rattle.mail_base.specs.Whites.{stripped}
use Rattle.cf_reader.specs.declared.fault.Fault.{Fault}
use Rattle.cf_reader.specs.declared.fault.Fault.TheVariants.{BadHeader}

-- the flags, which stand between question marks (63) at the front, and the field behind them; none
-- where the second mark is missing
abbrev pub flagged : List ℕ → Option (List ℕ × List ℕ)
flagged [] = Some ([], [])
flagged (byte ∷ text) = if byte == 63 then cut_at 63 text else Some ([], byte ∷ text)

-- no colon (58) stands behind the flags, or these aren't closed
abbrev pub lacks_colon : Option (List ℕ × List ℕ) → Bool
lacks_colon None = true
lacks_colon (Some parts) = not (is_some (cut_at 58 parts.1))

-- the flags aren't closed, or no colon (58) stands behind them
abbrev pub is_bad_header : List ℕ → Bool
is_bad_header text = lacks_colon (flagged text)

-- the fault of an H line, if it has one
abbrev pub fault_of_header : List ℕ → Option Fault
fault_of_header text = first_fault ((BadHeader, is_bad_header text) ∷ [])

-- a template that names rulesets begins with `$>`; white space before that doesn't count
abbrev pub calls_rules : List ℕ → Bool
calls_rules template = starts_with nat_eq (stripped template) (codes "$>")

-- what stands between the question marks is a macro where its first byte is a dollar sign
abbrev pub is_macro : List ℕ → Bool
is_macro flags = starts_with nat_eq flags (codes "$")

-- a header that calls rulesets, or hangs on a macro, is ignored, with a warning
abbrev pub unless_other : List ℕ → List ℕ → List ℕ → Option HeaderLine
unless_other flags name template = if is_macro flags || calls_rules template then None
    else Some (record {
      flags = flags_of flags;
      name = stripped name;
      template = without_blanks template;
    })

-- a header by its flags, and by its name and its template
abbrev pub header_in : List ℕ → Option (List ℕ × List ℕ) → Option HeaderLine
header_in flags None = None
header_in flags (Some field) = unless_other flags field.0 field.1

-- a header by its flags and the field behind them
abbrev pub header_by : Option (List ℕ × List ℕ) → Option HeaderLine
header_by None = None
header_by (Some parts) = header_in parts.0 (cut_at 58 parts.1)

-- the header of a line without fault: the name stands before the colon, the template behind it and
-- the blanks there, with each LF of a line that was joined
abbrev pub header_of : List ℕ → Option HeaderLine
header_of text = header_by (flagged text)

abbrev path_header : Option HeaderLine
path_header =
    Some (record { flags = codes "P"; name = codes "Return-Path"; template = codes "<$g>" })

abbrev joined_header : Option HeaderLine
joined_header = Some (record {
  flags = [];
  name = codes "Received";
  template = codes "from $s" ++ 10 ∷ codes "\tby $j";
})

example :
    (header_of (codes "?P?Return-Path: <$g>") ≡ path_header)
    × (header_of (codes "Received: from $s" ++ 10 ∷ codes "\tby $j") ≡ joined_header)
    × (header_of (codes "Subject: $>Check") ≡ None)
    × (header_of (codes "?${m}?X-A: b") ≡ None)
    × (fault_of_header (codes "Subject: $>Check") ≡ None)
    × (fault_of_header (codes "?${m}?X-A: b") ≡ None)
    × (fault_of_header (codes "?P?Return-Path") ≡ Some BadHeader)
    × (fault_of_header (codes "?P:Return-Path: x") ≡ Some BadHeader)
example = (refl, refl, refl, refl, refl, refl, refl, refl)
