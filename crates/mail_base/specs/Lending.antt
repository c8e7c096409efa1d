-- What a catalog becomes when a value that it lends is written.
use Rattle.std.specs.Prelude.{◌≡◌, ℕ, List, Option, OnSome}
use Rattle.std.specs.Borrow.{Fml, RattleType, MutBor, LendsSo}
use Rattle.mail_base.specs.Catalogs.{with_value}
use Rattle.mail_base.specs.contracts.catalog.Catalog.{the_row}

-- the name has the value that is left behind the loan; where nothing is lent, all stays
abbrev pub LendsValue : (V : RattleType) → MutBor (List (List ℕ × V.Denot)) → List ℕ
    → Option (MutBor V.Denot) → Fml
LendsValue V catalog name value =
    LendsSo (the_row V) V catalog value
    (λ n w. OnSome value (n ≡ with_value name w catalog.now)) (λ n. n ≡ catalog.now)
