-- Places of rulesets as code has them.
use Rattle.std.specs.Prelude.{ℕ, Option, Some, None, min}

-- the earlier of two places, where both are there
abbrev pub earlier : Option ℕ → Option ℕ → Option ℕ
earlier None other = other
earlier (Some one) None = Some one
earlier (Some one) (Some other) = Some (min one other)
