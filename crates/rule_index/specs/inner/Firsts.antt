-- The first rule of a bucket from a number on; only private contracts cite it.
use Rattle.std.specs.Prelude.{◌≡◌, ℕ, ◌<◌, List, Bool, Option, None, Some, nat_le, nat_lt, slice_get, if◌then◌else◌}
use Rattle.mail_base.specs.declared.rule.Numbered.{Numbered}

abbrev pub is_from : ℕ → Numbered → Bool
is_from from one = nat_le from one.number

-- the numbers ascend
abbrev pub IsAscending : List Numbered → Type 0
IsAscending bucket = (i j : ℕ) (one other : Numbered) → i < j → slice_get bucket i ≡ Some one
    → slice_get bucket j ≡ Some other → one.number < other.number

-- the one of the lesser number
abbrev pub earlier : Option Numbered → Option Numbered → Option Numbered
earlier None other = other
earlier (Some one) None = Some one
earlier (Some one) (Some other) = if nat_lt other.number one.number then Some other else Some one
