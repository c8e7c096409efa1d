-- What stands behind the files of maps: the first place of each name.
use Rattle.std.specs.Prelude.{ℕ, ◌+◌, List, [], ◌∷◌, Option, None, Some, slice_get}
use Rattle.map_tables.specs.Tables.{first_pairs}
use Rattle.map_tables.specs.declared.named.Named.{Named}

-- the names of files with their places, counted from a number
abbrev pub places_from : ℕ → List Named → List (List ℕ × ℕ)
places_from place [] = []
places_from place (text ∷ texts) = (text.name, place) ∷ places_from (place + 1) texts

-- each name with the place of the first file that has it
abbrev pub first_places : List Named → List (List ℕ × ℕ)
first_places texts = first_pairs (places_from 0 texts)

-- the bytes of a text that may be there
abbrev pub bytes_at : Option Named → List ℕ
bytes_at None = []
bytes_at (Some text) = text.bytes

-- the text at a place that may be there
abbrev pub text_at : List Named → Option ℕ → Option Named
text_at texts None = None
text_at texts (Some place) = slice_get texts place
