-- The readings of a clock in memory (own).
use Rattle.std.specs.Prelude.{ℕ, zero, suc, ◌+◌, ◌-◌, ◌*◌, ◌^◌, min, List, [], ◌∷◌, ◌++◌}

-- the reading of that number, counted from 0; it stands still at the greatest u64
abbrev pub reading_at : ℕ → ℕ → ℕ → ℕ
reading_at start step number = min (start + step * number) (2 ^ 64 - 1)

-- the first readings, so many of them
abbrev pub readings_of : ℕ → ℕ → ℕ → List ℕ
readings_of start step zero = []
readings_of start step (suc number) =
    readings_of start step number ++ reading_at start step number ∷ []
