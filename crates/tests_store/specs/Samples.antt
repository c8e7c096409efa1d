-- A directory, for examples (own).
use Rattle.std.specs.Prelude.{List, ℕ, [], ◌∷◌, codes}

-- the directory q
abbrev pub sample_dir : List ℕ
sample_dir = codes "q"

-- that directory alone
abbrev pub sample_dirs : List (List ℕ)
sample_dirs = sample_dir ∷ []
