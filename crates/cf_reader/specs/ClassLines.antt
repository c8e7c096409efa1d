-- C and F lines, which give words to a class (Sendmail Installation and Operation Guide, "C and F:
-- Define Classes"; which words are refused is our own).
use Rattle.std.specs.Prelude.{ℕ, Bool, true, false, not, ◌==◌, List, map, [], ◌∷◌, bytes_eq, codes, Option, Some, None, is_some, unwrap_or, Result, Ok, Err, if◌then◌else◌}
use Rattle.std.specs.List.{flat_map, before_first}
use Rattle.std.specs.Str.Lines.{lines}
use Rattle.mail_base.specs.declared.class.Member.{Member}
use Rattle.mail_base.specs.Catalogs.{value_at, with_value, members_of}
use Rattle.mail_base.specs.Classes.{with_members}
use Rattle.addr_tokens.specs.Members.{member_of, words_in}
use Rattle.cf_macros.specs.declared.fault.ExpandFault.{ExpandFault}
use Rattle.cf_macros.specs.Expansion.{value}
use Rattle.mail_edge.specs.Seen.{FileMap, text_of}
use Rattle.cf_reader.specs.declared.class_line.ClassLine.{ClassLine}
use Rattle.cf_reader.specs.declared.file_line.Wanted.{Wanted}
use Rattle.cf_reader.specs.declared.fault.Fault.{Fault}
use Rattle.cf_reader.specs.declared.fault.Fault.TheVariants.{BadPattern, NoSuchFile}
use Rattle.cf_macros.specs.Names.{split_name}
use Rattle.cf_reader.specs.Reads.{first_fault}
use Rattle.mail_base.specs.Words.{words_of}

-- ---- C lines, by what follows the letter

-- what a text is expanded to, or nothing where it can't be expanded
abbrev pub text_in : Result (List ℕ) ExpandFault → Option (List ℕ)
text_in (Ok text) = Some text
text_in (Err fault) = None

-- the words of a C line, whose text behind the name is expanded at once
abbrev pub class_words : List ℕ → List (List ℕ × List ℕ) → Option (List (List ℕ))
class_words text macros = words_in (value (split_name text).1 macros)

-- the macros in the words of a C line can't be expanded
abbrev pub is_bad_class : List ℕ → List (List ℕ × List ℕ) → Bool
is_bad_class text macros = not (is_some (class_words text macros))

-- the fault of a C line, if it has one
abbrev pub fault_of_class : List ℕ → List (List ℕ × List ℕ) → Option Fault
fault_of_class text macros = first_fault ((BadPattern, is_bad_class text macros) ∷ [])

-- the class of a C line, and the words that the line gives it
abbrev pub class_of : List ℕ → List (List ℕ × List ℕ) → ClassLine
class_of text macros =
    record { class = (split_name text).0; words = unwrap_or (class_words text macros) [] }

-- ---- members

-- the classes with the words of a line
abbrev pub with_words : List ℕ → List (List ℕ × List Member) → ClassLine
    → List (List ℕ × List Member)
with_words operators classes line = with_value line.class
    (with_members (members_of (value_at line.class classes))
    (map (member_of operators) line.words)) classes

-- ---- F lines, by what follows the letter

-- the first word; an F line without one names the file of the empty name
abbrev pub first_word : List (List ℕ) → List ℕ
first_word [] = []
first_word (word ∷ words) = word

-- the file that the words behind a class's name ask for; a pattern for scanning it, behind its
-- name, says nothing
abbrev pub wanted_by : List (List ℕ) → Wanted
wanted_by [] = record { file = []; optional = false }
wanted_by (word ∷ words) = if bytes_eq word (codes "-o")
    then record { file = first_word words; optional = true }
    else record { file = word; optional = false }

-- the file that an F line asks for
abbrev pub wanted_of : List ℕ → Wanted
wanted_of text = wanted_by (words_of (split_name text).1)

-- the words of a line of the file, of which what stands from a `#` (35) on goes
abbrev pub words_of_line : List ℕ → List (List ℕ)
words_of_line line = words_of (before_first (λ b. b == 35) line)

-- the words of all lines of a file
abbrev pub words_of_file : List ℕ → List (List ℕ)
words_of_file text = flat_map words_of_line (lines text)

-- the text of the file that an F line asks for: an absent one is empty where it may be absent, and
-- else there is none
abbrev pub text_or : Bool → Option (List ℕ) → Option (List ℕ)
text_or optional (Some text) = Some text
text_or optional None = if optional then Some [] else None

-- the text that an F line reads
abbrev pub file_text : FileMap → List ℕ → Option (List ℕ)
file_text files text = text_or (wanted_of text).optional (text_of files (wanted_of text).file)

-- a file that must be there isn't
abbrev pub lacks_file : FileMap → List ℕ → Bool
lacks_file files text = not (is_some (file_text files text))

-- the fault of an F line, if it has one
abbrev pub fault_of_file : FileMap → List ℕ → Option Fault
fault_of_file files text = first_fault ((NoSuchFile, lacks_file files text) ∷ [])

-- the class of an F line, and the words that its file gives it
abbrev pub file_class_of : FileMap → List ℕ → ClassLine
file_class_of files text = record {
  class = (split_name text).0;
  words = words_of_file (unwrap_or (file_text files text) []);
}
