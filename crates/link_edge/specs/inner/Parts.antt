-- What is left of one piece after a read: what the loop over the pieces goes by. It need not be
-- believed: no public contract cites it.
use Rattle.std.specs.Prelude.{ℕ, List, [], ◌∷◌, drop, Option, Some, None}

-- what is left of a piece of which so many bytes were read, or which is done
abbrev pub piece_at : List ℕ → Option ℕ → List (List ℕ)
piece_at piece None = []
piece_at piece (Some count) = drop count piece ∷ []
