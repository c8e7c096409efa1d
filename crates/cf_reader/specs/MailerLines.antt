-- M lines, by what follows the letter (Sendmail Installation and Operation Guide, "M: Define
-- Mailer": the first byte of a field's name counts).
use Rattle.std.specs.Prelude.{◌≡◌, ℕ, max, Bool, true, false, ◌&&◌, ◌||◌, ◌==◌, if◌then◌else◌, is_none, fold, List, [], ◌∷◌, length, Option, None, Some, unwrap_or, codes, bytes_eq, refl}
use Rattle.std.specs.List.{list_any}
use Rattle.mail_base.specs.declared.mailer.Mailer.{Mailer}
use Rattle.cf_values.specs.Flags.{flags_of}
use Rattle.cf_reader.specs.declared.fault.Fault.{Fault}
use Rattle.cf_reader.specs.declared.fault.Fault.TheVariants.{UnknownMailerField, NoPath, BadOption}
use Rattle.cf_reader.specs.declared.fields.Field.{Field}
use Rattle.cf_reader.specs.declared.mailer_field.MailerField.{MailerField}
use Rattle.cf_reader.specs.declared.mailer_field.MailerField.TheVariants.{Path, Flags, Sender, Recipient, Args, LineEnd, Most, Group, Batch, Ignored}
use Rattle.cf_reader.specs.Reads.{first_fault}
use Rattle.cf_reader.specs.Cuts.{cut_at}
use Rattle.mail_base.specs.Whites.{stripped}
use Rattle.mail_base.specs.Words.{words_of}
use Rattle.cf_reader.specs.Fields.{letter_of, line_name, line_fields}
use Rattle.cf_reader.specs.Values.{number_in, most_number, number_of, if_some}

-- ---- fields

-- the fields L, C, D, N, T, U, W, m and / are read and ignored
abbrev pub ignored : ℕ → Option MailerField
ignored letter =
    if list_any (λ other. letter == other) (codes "LCDNTUWm/") then Some Ignored else None

-- the field with this letter: P (80), F (70), S (83), R (82), A (65), E (69), M (77), Q (81) or
-- r (114), or one that is ignored
abbrev pub mailer_field : ℕ → Option MailerField
mailer_field letter =
    if letter == 80 then Some Path
    else if letter == 70 then Some Flags
    else if letter == 83 then Some Sender
    else if letter == 82 then Some Recipient
    else if letter == 65 then Some Args
    else if letter == 69 then Some LineEnd
    else if letter == 77 then Some Most
    else if letter == 81 then Some Group
    else if letter == 114 then Some Batch
    else ignored letter

-- the name of a field of an M line isn't known
abbrev pub is_unknown : Field → Bool
is_unknown field = is_none (mailer_field (letter_of field))

-- the field has a number
abbrev pub is_number : Option MailerField → Bool
is_number (Some Most) = true
is_number (Some Batch) = true
is_number field = false

-- an M or an r without a number
abbrev pub is_bad_field : Field → Bool
is_bad_field field =
    is_number (mailer_field (letter_of field)) && is_none (number_in most_number field.value)

-- ---- what fields say

-- the mailer before any field: lines end with LF (10)
abbrev pub first_mailer : List ℕ → Mailer
first_mailer name = record {
  name = name;
  path = [];
  flags = [];
  envelope_from = None;
  header_from = None;
  envelope_to = None;
  header_to = None;
  args = [];
  line_end = 10 ∷ [];
  most = 0;
  group = None;
  batch = 100;
}

-- the ruleset that a mailer names; an empty name is none, and so is `0`
abbrev pub set_named : List ℕ → Option (List ℕ)
set_named name = if bytes_eq name (codes "0") then None else if_some name

-- the rulesets of envelope and header, or one for both
abbrev pub sets_by : List ℕ → Option (List ℕ × List ℕ) → Option (List ℕ) × Option (List ℕ)
sets_by value None = (set_named (stripped value), set_named (stripped value))
sets_by value (Some parts) = (set_named (stripped parts.0), set_named (stripped parts.1))

-- the rulesets before and behind a slash (47), for the envelope and for headers; one without a
-- slash is both
abbrev pub sets_of : List ℕ → Option (List ℕ) × Option (List ℕ)
sets_of value = sets_by value (cut_at 47 value)

-- what ends a line; LF where the value is empty
abbrev pub line_end_of : List ℕ → List ℕ
line_end_of value = unwrap_or (if_some value) (10 ∷ [])

-- a mailer whose field is set; a batch of 0 rows is one of one
abbrev pub with_value : Option MailerField → List ℕ → Mailer → Mailer
with_value None value mailer = mailer
with_value (Some Path) value mailer = record mailer { path = value }
with_value (Some Flags) value mailer = record mailer { flags = flags_of value }
with_value (Some Sender) value mailer =
    record mailer { envelope_from = (sets_of value).0; header_from = (sets_of value).1 }
with_value (Some Recipient) value mailer =
    record mailer { envelope_to = (sets_of value).0; header_to = (sets_of value).1 }
with_value (Some Args) value mailer = record mailer { args = words_of value }
with_value (Some LineEnd) value mailer = record mailer { line_end = line_end_of value }
with_value (Some Most) value mailer = record mailer { most = number_of value }
with_value (Some Group) value mailer = record mailer { group = if_some value }
with_value (Some Batch) value mailer = record mailer { batch = max 1 (number_of value) }
with_value (Some Ignored) value mailer = mailer

-- one field more of a mailer
abbrev pub with_field : Mailer → Field → Mailer
with_field mailer field = with_value (mailer_field (letter_of field)) field.value mailer

-- ---- lines

-- what an M line without a fault says; of a field that stands twice the last counts
abbrev pub mailer_of : List ℕ → Mailer
mailer_of text = fold with_field (first_mailer (line_name text)) (line_fields text)

-- no P or no A, or an empty one
abbrev pub lacks_path : Mailer → Bool
lacks_path mailer = (length mailer.path == 0) || (length mailer.args == 0)

-- the first fault of an M line
abbrev pub fault_of_mailer : List ℕ → Option Fault
fault_of_mailer text = first_fault (
    (UnknownMailerField, list_any is_unknown (line_fields text))
    ∷ (NoPath, lacks_path (mailer_of text))
    ∷ (BadOption, list_any is_bad_field (line_fields text))
    ∷ [])

-- the mailer of a line that a generated file has
abbrev smtp : Mailer
smtp = record (first_mailer (codes "smtp")) {
  path = codes "[IPC]";
  flags = codes "mDFMuX";
  envelope_from = Some (codes "EnvFromSMTP");
  header_from = Some (codes "HdrFromSMTP");
  envelope_to = Some (codes "EnvToSMTP");
  header_to = Some (codes "EnvToSMTP");
  args = codes "TCP" ∷ codes "$h" ∷ [];
  line_end = 13 ∷ 10 ∷ [];
}

abbrev smtp_line : List ℕ
smtp_line =
    codes "smtp,\t\tP=[IPC], F=mDFMuX, S=EnvFromSMTP/HdrFromSMTP, R=EnvToSMTP, E=\\r\\n, L=990, \t\tT=DNS/RFC822/SMTP, \t\tA=TCP $h"

example :
    (mailer_of smtp_line ≡ smtp)
    × (fault_of_mailer smtp_line ≡ None)
    × (fault_of_mailer (codes "x, Z=1") ≡ Some UnknownMailerField)
    × (fault_of_mailer (codes "x, P=/bin/x, M=many") ≡ Some NoPath)
    × (fault_of_mailer (codes "x, P=/bin/x, A=x, M=many") ≡ Some BadOption)
    × (sets_of (codes "0/Hide") ≡ (None, Some (codes "Hide")))
unfolding most_number
example = (refl, refl, refl, refl, refl, refl)
