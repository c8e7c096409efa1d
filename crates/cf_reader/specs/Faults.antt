-- The faults of a line, in the order in which they are tried (Sendmail Installation and Operation
-- Guide, "The Whole Scoop on the Configuration File"; the names of the faults, their order and the
-- limits are our own). Each row says exactly when its fault holds; the first that holds is the
-- line's fault.
use Rattle.std.specs.Prelude.{ℕ, Bool, true, false, not, ◌==◌, List, [], ◌∷◌, Option, codes, if◌then◌else◌}
use Rattle.std.specs.List.{list_any}
use Rattle.mail_edge.specs.Seen.{FileMap}
use Rattle.cf_reader.specs.declared.fault.Fault.{Fault}
use Rattle.cf_reader.specs.declared.fault.Fault.TheVariants.{UnknownLine, NoTab, BadPattern, TooManyMetas, BadReference, UnknownMailerField, NoPath, DuplicateGroup, BadOption, BadMap, BadHeader, OperatorsLate, NoSuchFile}
use Rattle.cf_reader.specs.declared.state.State.{State}
use Rattle.cf_reader.specs.ClassLines.{is_bad_class, lacks_file}
use Rattle.cf_reader.specs.Fields.{line_name, line_fields}
use Rattle.cf_reader.specs.GroupLines as group
use Rattle.cf_reader.specs.HeaderLines.{is_bad_header}
use Rattle.cf_reader.specs.Letters.{had_group}
use Rattle.cf_reader.specs.MailerLines as mailer
use Rattle.cf_reader.specs.MapLines.{is_bad_map}
use Rattle.cf_reader.specs.OptionLines.{is_bad_option, is_late}
use Rattle.cf_reader.specs.PrecedenceLines.{is_bad_precedence}
use Rattle.cf_reader.specs.Reads.{first_fault}
use Rattle.cf_reader.specs.Rules.{Halves, halves_of, lacks_tab, is_bad_pattern, has_many_metas, refers_badly}

-- ---- letters

-- the letters with which lines begin
abbrev pub letters : List ℕ
letters = codes "DCFKMOPQSRHVTELX"

-- no line begins with this letter
abbrev pub is_unknown_line : List ℕ → Bool
is_unknown_line [] = true
is_unknown_line (letter ∷ text) = not (list_any (λ known. letter == known) letters)

-- the line begins with one of these letters, and its test holds of what follows the letter
abbrev pub on : List (ℕ × (List ℕ → Bool)) → List ℕ → Bool
on tests [] = false
on [] (letter ∷ text) = false
on (test ∷ tests) (letter ∷ text) =
    if letter == test.0 then test.1 text else on tests (letter ∷ text)

-- ---- conditions that ask what the lines before said

-- the two sides of a rule, expanded with the macros so far and cut under the operators so far
abbrev pub sides : State → List ℕ → Halves
sides state text = halves_of text state.config.macros state.config.options.operator_chars

-- the group of a Q line was named before
abbrev pub had_name : State → List ℕ → Bool
had_name state text = had_group (line_name text) state

-- ---- the table

-- each fault, and the letters (C 67, F 70, H 72, K 75, M 77, O 79, P 80, Q 81, R 82) with the
-- condition under which a line of the letter has it
abbrev pub fault_table : FileMap → State → List ℕ → List (Fault × Bool)
fault_table files state line =
    (UnknownLine, is_unknown_line line)
    ∷ (NoTab, on ((82, lacks_tab) ∷ []) line)
    ∷ (
      BadPattern,
      on ((82, λ text. is_bad_pattern (sides state text))
          ∷ (67, λ text. is_bad_class text state.config.macros) ∷ []) line,
    )
    ∷ (TooManyMetas, on ((82, λ text. has_many_metas (sides state text)) ∷ []) line)
    ∷ (BadReference, on ((82, λ text. refers_badly (sides state text)) ∷ []) line)
    ∷ (
      UnknownMailerField,
      on ((77, λ text. list_any mailer.is_unknown (line_fields text)) ∷ []) line,
    )
    ∷ (NoPath, on ((77, λ text. mailer.lacks_path (mailer.mailer_of text)) ∷ []) line)
    ∷ (DuplicateGroup, on ((81, had_name state) ∷ []) line)
    ∷ (
      BadOption,
      on ((79, is_bad_option)
          ∷ (77, λ text. list_any mailer.is_bad_field (line_fields text))
          ∷ (81, λ text. list_any group.is_bad_field (line_fields text))
          ∷ (80, is_bad_precedence) ∷ []) line,
    )
    ∷ (BadMap, on ((75, λ text. is_bad_map text state.maps) ∷ []) line)
    ∷ (BadHeader, on ((72, is_bad_header) ∷ []) line)
    ∷ (OperatorsLate, on ((79, is_late state.has_rules) ∷ []) line)
    ∷ (NoSuchFile, on ((70, lacks_file files) ∷ []) line)
    ∷ []

-- the first fault of a line behind the lines of a state, over these files
abbrev pub fault : FileMap → State → List ℕ → Option Fault
fault files state line = first_fault (fault_table files state line)
