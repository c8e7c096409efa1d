-- K lines, by what follows the letter (Sendmail Installation and Operation Guide, "K: Key File
-- Declaration"; that a sequence has the maps that its members name at its own line, and that
-- columns are below 100, is our own).
use Rattle.std.specs.Prelude.{◌≡◌, ◌==◌, ◌||◌, ◌&&◌, ℕ, Bool, true, false, not, nat_lt, is_some, bytes_eq, unwrap_or, List, [], ◌∷◌, length, take, drop, fold, slice_get, Option, None, Some, if◌then◌else◌, codes, refl}
use Rattle.std.specs.List.{filter_map, list_any, prefix_len}
use Rattle.std.specs.Option.{option_or}
use Rattle.std.specs.Str.{str_to_ascii_lowercase}
use Rattle.mail_base.specs.Configs.{host_map}
use Rattle.mail_base.specs.declared.lines.MapClass.{MapClass}
use Rattle.mail_base.specs.declared.lines.MapClass.TheVariants.{Text as TextClass, Hash, Btree, Host, Dequote, Sequence, Null, Arith, Macro, Other}
use Rattle.mail_base.specs.declared.lines.MapLine.{MapLine}
use Rattle.cf_values.specs.Numbers.{number_value}
use Rattle.cf_reader.specs.Places.{last_place}
use Rattle.cf_reader.specs.Reads.{first_fault}
use Rattle.mail_base.specs.Words.{words_of}
use Rattle.cf_reader.specs.declared.fault.Fault.{Fault}
use Rattle.cf_reader.specs.declared.fault.Fault.TheVariants.{BadMap}

-- the word at a place, counted from 0; a line with fewer has the empty one there
abbrev pub word_at : ℕ → List ℕ → List ℕ
word_at place text = unwrap_or (slice_get (words_of text) place) []

-- the first word is the name, the second the class, and the others are arguments
abbrev pub map_name : List ℕ → List ℕ
map_name text = word_at 0 text

-- the class of a K line
abbrev pub map_class : List ℕ → List ℕ
map_class text = word_at 1 text

-- the words behind the class
abbrev pub arguments : List ℕ → List (List ℕ)
arguments text = drop 2 (words_of text)

-- an argument that begins with `-` (45)
abbrev pub is_dashed : List ℕ → Bool
is_dashed [] = false
is_dashed (byte ∷ bytes) = byte == 45

-- the arguments up to the first that begins otherwise are letters with their values
abbrev pub letters : List ℕ → List (List ℕ)
letters text = take (prefix_len is_dashed (arguments text)) (arguments text)

-- the file, or the members of a sequence, are behind them
abbrev pub operands : List ℕ → List (List ℕ)
operands text = drop (prefix_len is_dashed (arguments text)) (arguments text)

-- what an argument has behind its letter, if this is the letter
abbrev pub behind : ℕ → List ℕ → Option (List ℕ)
behind letter [] = None
behind letter (dash ∷ []) = None
behind letter (dash ∷ byte ∷ value) = if byte == letter then Some value else None

-- the value of a letter: where it comes more than once the last counts
abbrev pub value_of : ℕ → List (List ℕ) → Option (List ℕ)
value_of letter args = fold (λ before arg. option_or (behind letter arg) before) None args

-- a column is a number below 100
abbrev pub is_column : Option ℕ → Bool
is_column None = false
is_column (Some number) = nat_lt number 100

-- there is a value, and it is no column's number
abbrev pub is_no_column : Option (List ℕ) → Bool
is_no_column None = false
is_no_column (Some value) = not (is_column (number_value value))

-- an argument has this letter without a number below 100
abbrev pub has_bad_column : ℕ → List (List ℕ) → Bool
has_bad_column letter args = list_any (λ arg. is_no_column (behind letter arg)) args

-- a column by its value, or the one before
abbrev pub column_or : ℕ → Option (List ℕ) → ℕ
column_or before None = before
column_or before (Some value) = unwrap_or (number_value value) 0

-- the column that the last argument with this letter names, or else this one
abbrev pub column_of : ℕ → ℕ → List (List ℕ) → ℕ
column_of letter default args =
    fold (λ before arg. column_or before (behind letter arg)) default args

-- the class is sequence
abbrev pub is_sequence : List ℕ → Bool
is_sequence class = bytes_eq (str_to_ascii_lowercase class) (codes "sequence")

-- no K line before has this name
abbrev pub is_unknown : List MapLine → List ℕ → Bool
is_unknown maps name = not (is_some (last_place name maps))

-- a sequence has a member that no K line before names
abbrev pub lacks_member : List ℕ → List (List ℕ) → List MapLine → Bool
lacks_member class names maps = is_sequence class && list_any (is_unknown maps) names

-- `-k` (107) or `-v` (118) has no number below 100, or a member is unknown
abbrev pub is_bad_line : List ℕ → List (List ℕ) → List (List ℕ) → List MapLine → Bool
is_bad_line class args operands maps =
    has_bad_column 107 args || (has_bad_column 118 args || lacks_member class operands maps)

-- the same, or no class stands behind the name
abbrev pub is_bad_map : List ℕ → List MapLine → Bool
is_bad_map text maps = nat_lt (length (words_of text)) 2
    || is_bad_line (map_class text) (letters text) (operands text) maps

-- the fault of a K line, if it has one
abbrev pub fault_of_map : List ℕ → List MapLine → Option Fault
fault_of_map text maps = first_fault ((BadMap, is_bad_map text maps) ∷ [])

-- the members of a sequence are the maps that these names have now
abbrev pub members_of : List (List ℕ) → List MapLine → List ℕ
members_of names maps = filter_map (λ name. last_place name maps) names

-- the class of a word in small letters; another word is a class that isn't supported
abbrev pub class_by : List ℕ → List ℕ → MapClass
class_by small class =
    if bytes_eq small (codes "text") then TextClass
    else if bytes_eq small (codes "hash") then Hash
    else if bytes_eq small (codes "btree") then Btree
    else if bytes_eq small (codes "host") then Host
    else if bytes_eq small (codes "dequote") then Dequote
    else if bytes_eq small (codes "null") then Null
    else if bytes_eq small (codes "arith") then Arith
    else if bytes_eq small (codes "macro") then Macro
    else Other class

-- classes are words without ASCII case
abbrev pub class_of : List ℕ → List (List ℕ) → List MapLine → MapClass
class_of class names maps = if is_sequence class then Sequence (members_of names maps)
    else class_by (str_to_ascii_lowercase class) class

-- the operands of a sequence are no files
abbrev pub file_of : MapClass → List (List ℕ) → Option (List ℕ)
file_of (Sequence places) operands = None
file_of _ operands = slice_get operands 0

-- the byte between columns: `\t` is a tab (9), `\n` an LF (10), and another backslash (92) itself
abbrev pub separator_of : List ℕ → Option ℕ
separator_of [] = None
separator_of (byte ∷ []) = Some byte
separator_of (byte ∷ next ∷ _) =
    if not (byte == 92) then Some byte
    else if next == 116 then Some 9
    else if next == 110 then Some 10
    else Some 92

-- a map by its parts: the letters f (102), m (109), a (97), o (111), k (107), v (118) and z (122)
-- count, and others are ignored
abbrev pub map_by : List ℕ → MapClass → List (List ℕ) → List (List ℕ) → MapLine
map_by name class args operands = record {
  name = name;
  class = class;
  keeps_case = is_some (value_of 102 args);
  match_only = is_some (value_of 109 args);
  tag = unwrap_or (value_of 97 args) [];
  optional = is_some (value_of 111 args);
  key_column = column_of 107 0 args;
  value_column = column_of 118 1 args;
  separator = separator_of (unwrap_or (value_of 122 args) []);
  file = file_of class operands;
}

-- the map that a line without fault declares, behind the K lines before it
abbrev pub map_of : List ℕ → List MapLine → MapLine
map_of text maps = map_by (map_name text) (class_of (map_class text) (operands text) maps)
    (letters text) (operands text)

abbrev access : MapLine
access = record {
  name = codes "access";
  class = Hash;
  keeps_case = false;
  match_only = false;
  tag = codes "<OK>";
  optional = true;
  key_column = 0;
  value_column = 2;
  separator = Some 9;
  file = Some (codes "/etc/mail/access");
}

abbrev both : MapLine
both = record {
  name = codes "both";
  class = Sequence (1 ∷ 0 ∷ []);
  keeps_case = false;
  match_only = true;
  tag = [];
  optional = false;
  key_column = 0;
  value_column = 1;
  separator = None;
  file = None;
}

example :
    (map_of (codes "access HASH -o -T<TMPF> -a<OK> -v1 -v02 -z\\t /etc/mail/access old") []
    ≡ access)
    × (map_of (codes "both sequence -m access host") (host_map ∷ access ∷ []) ≡ both)
    × (fault_of_map (codes "both sequence access hast") (host_map ∷ access ∷ []) ≡ Some BadMap)
    × (fault_of_map (codes "both") [] ≡ Some BadMap)
    × (fault_of_map (codes "t text -k99 /t") [] ≡ None)
    × (fault_of_map (codes "t text -k100 /t") [] ≡ Some BadMap)
    × (fault_of_map (codes "t text -v /t") [] ≡ Some BadMap)
example = (refl, refl, refl, refl, refl, refl, refl)
