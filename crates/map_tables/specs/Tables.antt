-- The tables of map files (Sendmail Installation and Operation Guide, K: the classes text, hash and
-- btree; makemap(8)).
use Rattle.std.specs.Prelude.{◌≡◌, ℕ, Bool, List, [], ◌∷◌, ◌++◌, Option, None, Some, is_some, drop, fold, bytes_eq, unwrap_or, option_map, slice_get, if◌then◌else◌, codes, refl, true, false}
use Rattle.std.specs.List.{before_first, find, filter_map, position_or_len}
use Rattle.std.specs.Str.{str_to_ascii_lowercase}
use Rattle.std.specs.Str.Lines.{lines}
use Rattle.mail_base.specs.Catalogs.{value_at}
use Rattle.mail_base.specs.Whites.{is_white, without_whites}
use Rattle.mail_base.specs.declared.lines.MapClass.{MapClass}
use Rattle.mail_base.specs.declared.lines.MapClass.TheVariants.{Text as TextClass, Hash, Btree}
use Rattle.mail_base.specs.declared.lines.MapLine.{MapLine}
use Rattle.map_tables.specs.Marks.{is_silent}
use Rattle.map_tables.specs.Words.{columns}
use Rattle.map_tables.specs.declared.files.MapFile.{MapFile}
use Rattle.map_tables.specs.declared.named.Named.{Named}
use Rattle.map_tables.specs.declared.table.Table.{Table}

-- a line of a hash or btree file: a key up to white space, and the rest behind that
abbrev pub word_pair : List ℕ → Option (List ℕ × List ℕ)
word_pair line = if is_silent line then None
    else Some (
      before_first is_white line,
      without_whites (drop (position_or_len is_white line) line),
    )

-- a key and a value, where both are there
abbrev pub both : Option (List ℕ) → Option (List ℕ) → Option (List ℕ × List ℕ)
both (Some key) (Some value) = Some (key, value)
both (Some key) None = None
both None value = None

-- a line of a text file: the column of the key and that of the value
abbrev pub column_pair : MapLine → List ℕ → Option (List ℕ × List ℕ)
column_pair map line = both (slice_get (columns map.separator line) map.key_column)
    (slice_get (columns map.separator line) map.value_column)

-- what a line of a file says by the map's class: only these classes have files
abbrev pub pair_by : MapClass → MapLine → List ℕ → Option (List ℕ × List ℕ)
pair_by TextClass map line = column_pair map line
pair_by Hash map line = word_pair line
pair_by Btree map line = word_pair line
pair_by _ map line = None

-- a key as it is compared: in small letters, unless `-f` keeps its case
abbrev pub folded_key : MapLine → List ℕ → List ℕ
folded_key map key = if map.keeps_case then key else str_to_ascii_lowercase key

-- what a line of a file says, with its key as it is compared
abbrev pub line_pair : MapLine → List ℕ → Option (List ℕ × List ℕ)
line_pair map line =
    option_map (λ pair. (folded_key map pair.0, pair.1)) (pair_by map.class map line)

-- what the lines of a file say
abbrev pub file_pairs : MapLine → List ℕ → List (List ℕ × List ℕ)
file_pairs map text = filter_map (line_pair map) (lines text)

module _ {V : Type 0} where
  -- one pair more; a key that is there keeps its value
  abbrev pub with_first : List (List ℕ × V) → List ℕ × V → List (List ℕ × V)
  with_first pairs pair = if is_some (value_at pair.0 pairs) then pairs else pairs ++ pair ∷ []

  -- each key with the value that it first has, in order
  abbrev pub first_pairs : List (List ℕ × V) → List (List ℕ × V)
  first_pairs pairs = fold with_first [] pairs

-- whether a text has that name
abbrev pub is_named : List ℕ → Named → Bool
is_named name text = bytes_eq name text.name

-- the text of a file: of the first of its name; a file that isn't there, and a map without a file,
-- have the empty text
abbrev pub text_of : List Named → Option (List ℕ) → List ℕ
text_of texts None = []
text_of texts (Some file) =
    unwrap_or (option_map (λ text. text.bytes) (find (is_named file) texts)) []

-- a K line with its table: each key with the value of its first line, in the order of the lines
abbrev pub table : List Named → MapLine → Table
table texts map =
    record { line = map; pairs = first_pairs (file_pairs map (text_of texts map.file)) }

-- a map whose table is made of a file, by its class
abbrev pub has_file : MapClass → Bool
has_file TextClass = true
has_file Hash = true
has_file Btree = true
has_file _ = false

-- the file of a map whose table is made of one
abbrev pub file_of : MapLine → Option (List ℕ)
file_of map = if has_file map.class then map.file else None

-- the same, and whether it may be absent, as `-o` says
abbrev pub wanted_of : MapLine → Option MapFile
wanted_of map = option_map (λ file. record { name = file; optional = map.optional }) (file_of map)

-- the files of the K lines in order, also of a line that a later one replaces, since a sequence may
-- hold it
abbrev pub wanted_files : List MapLine → List MapFile
wanted_files maps = filter_map wanted_of maps

example : (word_pair (codes "k  v w") ≡ Some (codes "k", codes "v w"))
    × (word_pair (codes "k") ≡ Some (codes "k", [])) × (word_pair (codes "# k") ≡ None)
    × (word_pair (codes " \t") ≡ None)
example = (refl, refl, refl, refl)
