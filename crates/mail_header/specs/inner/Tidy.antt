-- What becomes of one byte of a header that is made.
use Rattle.std.specs.Prelude.{ℕ, List, [], ◌∷◌, ◌||◌, if◌then◌else◌}
use Rattle.mail_header.specs.Headers.{is_plain}
use Rattle.mail_header.specs.Made.{folds}

-- the first byte as it is kept
abbrev pub tidy_first : List ℕ → ℕ
tidy_first [] = 32
tidy_first (b ∷ rest) = if is_plain b || folds b rest then b else 32
