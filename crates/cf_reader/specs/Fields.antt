-- The fields of M and Q lines and of some options: names with values, between commas (Sendmail
-- Installation and Operation Guide, "M: Define Mailer" and "Q: Define Queue Group"; what quotes and
-- backslashes do is the public program's).
use Rattle.std.specs.Prelude.{◌≡◌, ◌≢◌, ℕ, Bool, true, false, not, ◌&&◌, ◌||◌, ◌==◌, if◌then◌else◌, List, [], ◌∷◌, ◌++◌, length, filter, map, unwrap_or, codes, refl}
use Rattle.cf_reader.specs.Cuts.{cut_at}
use Rattle.mail_base.specs.Whites.{stripped}
use Rattle.cf_reader.specs.declared.fields.Field.{Field}
use Rattle.cf_reader.specs.declared.fields.Stand.{Stand}

-- ---- commas, double quotes and backslashes

-- where a text begins no quote is open, and no backslash stands before
abbrev pub outside : Stand
outside = record { quoted = false; escaped = false }

-- where the byte behind this one stands: a backslash (92) escapes one byte, and a double quote
-- (34) opens and closes
abbrev pub behind : Stand → ℕ → Stand
behind stand b =
    if stand.escaped then record { quoted = stand.quoted; escaped = false }
    else if b == 92 then record { quoted = stand.quoted; escaped = true }
    else if b == 34 then record { quoted = not stand.quoted; escaped = false }
    else stand

-- a comma (44) ends a field, but not within quotes nor behind a backslash
abbrev pub ends : Stand → ℕ → Bool
ends stand b = (b == 44) && (not stand.quoted && not stand.escaped)

-- a text cut at the commas that end fields, where these bytes of the first piece stand before it
abbrev pub cut_from : Stand → List ℕ → List ℕ → List (List ℕ)
cut_from stand piece [] = piece ∷ []
cut_from stand piece (b ∷ text) = if ends stand b then piece ∷ cut_from outside [] text
    else cut_from (behind stand b) (piece ++ b ∷ []) text

-- the pieces that aren't empty, without white space at their ends
abbrev pub kept : List (List ℕ) → List (List ℕ)
kept pieces = filter (λ piece. not (length piece == 0)) (map stripped pieces)

-- what stands between commas, without what is empty
abbrev pub pieces_of : List ℕ → List (List ℕ)
pieces_of text = kept (cut_from outside [] text)

-- ---- what a value says

-- the byte that this one says behind a backslash: LF for n, CR for r, FF for f, BS for b, and
-- itself for each other
abbrev pub escape : ℕ → ℕ
escape b = if b == 110 then 10 else if b == 114 then 13 else if b == 102 then 12
    else if b == 98 then 8 else b

-- what a byte of a value says
abbrev pub said : Stand → ℕ → List ℕ
said stand b =
    if stand.escaped then escape b ∷ [] else if (b == 92) || (b == 34) then [] else b ∷ []

-- a text without the quotes and backslashes that mean something
abbrev pub plain_from : Stand → List ℕ → List ℕ
plain_from stand [] = []
plain_from stand (b ∷ text) = said stand b ++ plain_from (behind stand b) text

-- a value without its quotes, and with the bytes that its escapes stand for
abbrev pub plain : List ℕ → List ℕ
plain text = plain_from outside text

-- ---- quoted stretches, for the law on fields

-- a byte that neither quotes nor escapes
pub record IsQuotable (b : ℕ) : Type 0 where
  pub no_quote : b ≢ 34
  pub no_backslash : b ≢ 92

-- what may stand between two double quotes: commas too, and a backslash with the byte behind it
pub data InQuotes : List ℕ → Type 0 where
  quote_nothing : InQuotes []
  quote_plain : (b : ℕ) (more : List ℕ) → IsQuotable b → InQuotes more → InQuotes (b ∷ more)
  quote_escaped : (b : ℕ) (more : List ℕ) → InQuotes more → InQuotes (92 ∷ b ∷ more)

-- ---- names and values

-- what stands before the first of a byte, and what behind it, which is nothing where there is none
abbrev pub split_at : ℕ → List ℕ → List ℕ × List ℕ
split_at byte text = unwrap_or (cut_at byte text) (text, [])

-- a name, and behind `=` (61) a value, which may be absent
abbrev pub field_of : List ℕ → Field
field_of piece = let parts = split_at 61 piece in
    record { name = stripped parts.0; value = plain (stripped parts.1) }

-- the fields of a text
abbrev pub fields_of : List ℕ → List Field
fields_of text = map field_of (pieces_of text)

-- the first byte, or 0
abbrev pub first_byte : List ℕ → ℕ
first_byte [] = 0
first_byte (b ∷ text) = b

-- the first byte of a field's name, by which fields go, or 0
abbrev pub letter_of : Field → ℕ
letter_of field = first_byte field.name

-- ---- a line that has a name first

-- what stands before the first comma, without white space at its ends
abbrev pub line_name : List ℕ → List ℕ
line_name text = stripped (split_at 44 text).0

-- the fields behind the first comma
abbrev pub line_fields : List ℕ → List Field
line_fields text = fields_of (split_at 44 text).1

-- a field by its name and its value
abbrev pub pair : List ℕ → List ℕ → Field
pair name value = record { name = name; value = value }

example :
    (line_name (codes "smtp,\tP=[IPC], E=\\r\\n,A=TCP $h") ≡ codes "smtp")
    × (line_fields (codes "smtp,\tP=[IPC], E=\\r\\n,,A = TCP $h ")
    ≡ pair (codes "P") (codes "[IPC]") ∷ pair (codes "E") (13 ∷ 10 ∷ [])
    ∷ pair (codes "A") (codes "TCP $h") ∷ [])
    × (fields_of (codes "A=x\\,y \"a,b\", F")
    ≡ pair (codes "A") (codes "x,y a,b") ∷ pair (codes "F") [] ∷ [])
example = (refl, refl, refl)
