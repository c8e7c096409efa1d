-- What is kept of a time while its text is read (our own).
use Rattle.std.specs.Prelude.{◌≡◌, ℕ, ◌+◌, ◌^◌, List, [], ◌∷◌, min, sum_by, Option, Some, None}
use Rattle.cf_values.specs.declared.under_way.UnderWay.{UnderWay}
use Rattle.cf_values.specs.Numbers.{value}
use Rattle.cf_values.specs.Times.{Time, IsProper, spelling, pair_seconds}

-- a number of seconds, where each above 2^60 counts as 2^60 + 1
unfoldable pub capped : ℕ → ℕ
capped n = min (2 ^ 60 + 1) n

-- the number of digits, if there are any
abbrev pub count_of : List ℕ → Option ℕ
count_of [] = None
count_of (digit ∷ digits) = Some (capped (value (digit ∷ digits)))

-- a front of a text is a time so far, and this is kept of it
pub record Stands (kept : UnderWay) (front : List ℕ) : Type 0 where
  pub time : Time
  pub proper : IsProper time
  pub spelled : front ≡ spelling time
  pub seconds : kept.seconds ≡ capped (sum_by pair_seconds time.pairs)
  pub count : kept.count ≡ count_of time.last
