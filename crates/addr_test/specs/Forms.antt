-- The forms of a line of address test mode (Sendmail Installation and Operation Guide, "Address
-- Testing Mode"; where words and names end, and what isn't a form, is our own).
use Rattle.std.specs.Prelude.{◌≡◌, ℕ, List, [], ◌∷◌, length, take, drop, bytes_eq, Bool, ◌==◌, ◌&&◌, not, nat_lt, if◌then◌else◌, codes, refl}
use Rattle.std.specs.List.{list_any, position_or_len, slice_split}
use Rattle.mail_base.specs.Limits.{most_line}
use Rattle.mail_base.specs.Whites.{is_white, without_whites}
use Rattle.cf_macros.specs.Names.{split_name}

-- what a line asks for, where it isn't `/quit`
pub data Form : Type 0 where
  -- nothing: it is empty, or a comment
  Quiet : Form
  TooLong : Form
  -- runs of sets, by their list, on an address
  Runs : (sets address : List ℕ) → Form
  -- `/parse`
  Parse : (address : List ℕ) → Form
  -- `/try`, with a mailer's name
  Try : (mailer address : List ℕ) → Form
  -- `/map`
  Lookup : (name key : List ℕ) → Form
  -- `=S`
  Rules : (name : List ℕ) → Form
  -- `=M`
  Mailers : Form
  -- `$x`
  Value : (name : List ℕ) → Form
  -- `$=c`
  Members : (class : List ℕ) → Form
  -- `.D`
  Defines : (name value : List ℕ) → Form
  -- `.C`
  Adds : (class words : List ℕ) → Form
  Unknown : Form

-- ---- words and names

-- what stands before the first white space, and what stands behind that white space
abbrev pub split_word : List ℕ → List ℕ × List ℕ
split_word text = (
  take (position_or_len is_white text) text,
  without_whites (drop (position_or_len is_white text) text),
)

abbrev pub is_nothing : List ℕ → Bool
is_nothing text = length text == 0

-- a name, and nothing behind it
abbrev pub is_name : List ℕ × List ℕ → Bool
is_name parts = not (is_nothing parts.0) && is_nothing parts.1

-- ---- lists of sets

abbrev pub is_comma : ℕ → Bool
is_comma b = b == 44

-- the names in a list of sets
abbrev pub names_in : List ℕ → List (List ℕ)
names_in sets = slice_split is_comma sets

abbrev pub lacks_name : List ℕ → Bool
lacks_name sets = list_any is_nothing (names_in sets)

-- ---- the forms

-- a list of sets, and an address behind it
abbrev pub sets_form : List ℕ × List ℕ → Form
sets_form words = if lacks_name words.0 then Unknown else Runs words.0 words.1

-- the name of a map, and a key behind it
abbrev pub lookup_form : List ℕ × List ℕ → Form
lookup_form words = if is_nothing words.1 then Unknown else Lookup words.0 words.1

-- an address
abbrev pub parse_form : List ℕ → Form
parse_form address = if is_nothing address then Unknown else Parse address

-- the name of a mailer, and an address behind it
abbrev pub try_form : List ℕ × List ℕ → Form
try_form words = if is_nothing words.1 then Unknown else Try words.0 words.1

-- a command that begins with `/`, and what is behind it
abbrev pub command_form : List ℕ × List ℕ → Form
command_form words =
    if bytes_eq words.0 (codes "/map") then lookup_form (split_word words.1)
    else if bytes_eq words.0 (codes "/parse") then parse_form words.1
    else if bytes_eq words.0 (codes "/try") then try_form (split_word words.1)
    else Unknown

-- behind a `=`: `S` (83) with a name, or `M` (77)
abbrev pub shown_form : List ℕ → Form
shown_form [] = Unknown
shown_form (b ∷ name) =
    if b == 83 then Rules name else if b == 77 && is_nothing name then Mailers else Unknown

abbrev pub members_form : List ℕ × List ℕ → Form
members_form parts = if is_name parts then Members parts.0 else Unknown

abbrev pub value_form : List ℕ × List ℕ → Form
value_form parts = if is_name parts then Value parts.0 else Unknown

-- behind a `$`: `=` (61) with a class, or a macro
abbrev pub asked_form : List ℕ → Form
asked_form [] = Unknown
asked_form (b ∷ text) =
    if b == 61 then members_form (split_name text) else value_form (split_name (b ∷ text))

abbrev pub defines_form : List ℕ × List ℕ → Form
defines_form parts = if is_nothing parts.0 then Unknown else Defines parts.0 parts.1

abbrev pub adds_form : List ℕ × List ℕ → Form
adds_form parts = if is_nothing parts.0 then Unknown else Adds parts.0 parts.1

-- behind a `.`: `D` (68) with a macro and its value, or `C` (67) with a class and words
abbrev pub change_form : List ℕ → Form
change_form [] = Unknown
change_form (b ∷ text) = if b == 68 then defines_form (split_name text)
    else if b == 67 then adds_form (split_name text) else Unknown

-- by the first byte: `/` (47), `=` (61), `$` (36), `.` (46) or another
abbrev pub form_by : ℕ → List ℕ → Form
form_by b rest =
    if b == 47 then command_form (split_word (b ∷ rest))
    else if b == 61 then shown_form rest
    else if b == 36 then asked_form rest
    else if b == 46 then change_form rest
    else sets_form (split_word (b ∷ rest))

-- what a line asks for; one that begins with `#` (35) is a comment, however long it is
abbrev pub form_of : List ℕ → Form
form_of [] = Quiet
form_of (b ∷ rest) = if b == 35 then Quiet else if nat_lt most_line (length (b ∷ rest)) then TooLong
    else form_by b rest

-- the line that ends the input
abbrev pub is_quit : List ℕ → Bool
is_quit line = bytes_eq line (codes "/quit")

example :
    (split_word (codes "3,0 \ta b") ≡ (codes "3,0", codes "a b"))
    × (names_in (codes "3,canon") ≡ codes "3" ∷ codes "canon" ∷ [])
    × (form_by 47 (codes "map t a b") ≡ Lookup (codes "t") (codes "a b"))
    × (form_by 47 (codes "parse <a b>") ≡ Parse (codes "<a b>"))
    × (form_by 47 (codes "try smtp a") ≡ Try (codes "smtp") (codes "a"))
    × (form_by 47 (codes "try smtp ") ≡ Unknown)
    × (form_by 61 (codes "S3") ≡ Rules (codes "3"))
    × (form_by 36 (codes "{x}") ≡ Value (codes "x"))
    × (form_by 36 (codes "=wx") ≡ Unknown)
    × (form_by 46 (codes "Dx1") ≡ Defines (codes "x") (codes "1"))
    × (form_by 51 (codes ",,0 a") ≡ Unknown)
example = (refl, refl, refl, refl, refl, refl, refl, refl, refl, refl, refl)
