-- How the lines of map files and of the host table are cut (Sendmail Installation and Operation
-- Guide, K: what columns are; which bytes are white space is our own).
use Rattle.std.specs.Prelude.{◌≡◌, ◌==◌, ℕ, List, [], ◌∷◌, Option, None, Some, codes, refl}
use Rattle.std.specs.List.{slice_split}
use Rattle.mail_base.specs.Words.{words_of}

-- the columns of a line: what stands between its separators, or its words
abbrev pub columns : Option ℕ → List ℕ → List (List ℕ)
columns (Some separator) line = slice_split (λ byte. byte == separator) line
columns None line = words_of line

example : (columns None (codes " k\t v ") ≡ codes "k" ∷ codes "v" ∷ [])
    × (columns (Some 58) (codes "k::v w") ≡ codes "k" ∷ [] ∷ codes "v w" ∷ [])
example = (refl, refl)
