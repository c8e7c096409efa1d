-- The moment that a reading of the clock counts as (its limit is own: dates have four digits of a
-- year).
use Rattle.std.specs.Prelude.{◌≡◌, ℕ, min, refl}
use Rattle.cf_macros.specs.Dates.{counted}

-- the beginning of the year 3000
unfoldable pub last_moment : ℕ
last_moment = 32_503_680_000

-- a later reading counts as that
abbrev pub moment_of : ℕ → ℕ
moment_of reading = min reading last_moment

-- it is the one that dates are made of
example : (reading : ℕ) → moment_of reading ≡ counted reading
unfolding last_moment
example reading = refl
