-- The tables by which the bytes of a text are told.
use Rattle.std.specs.Prelude.{◌≡◌, ℕ, ◌<◌, Bool, true, false, not, ◌&&◌, ◌||◌, ◌==◌, List, slice_index_or}
use Rattle.mail_base.specs.Whites.{is_white}
use Rattle.addr_tokens.specs.declared.lexeme.Dollars.{Dollars}
use Rattle.addr_tokens.specs.Pieces.{Alphabet, is_special, is_listed}

-- a table says of each byte whether it is an operator
pub record IsTable (alphabet : Alphabet) (listed : List Bool) (dollars : Dollars) : Type 0 where
  pub at : (b : ℕ) → b < 256 → slice_index_or listed b false ≡ is_listed alphabet b
  pub means : dollars ≡ alphabet.dollars

-- a byte that stands in a word whatever is behind it, where it is listed or isn't
abbrev pub is_lone : Bool → ℕ → Bool
is_lone listed b = not (is_white b) && not (is_special b) && not listed && not (b == 36)

-- another byte: all but a backslash and a dollar sign end a word whatever is behind them
abbrev pub is_asked : Bool → ℕ → Bool
is_asked listed b = is_white b || (is_special b || (listed || b == 36))

-- a byte that isn't in the second table is one, by the first, of operators
abbrev pub AreLone : List Bool → List Bool → Type 0
AreLone listed asked = (b : ℕ) → b < 256 → slice_index_or asked b false ≡ false
    → is_lone (slice_index_or listed b false) b ≡ true

-- a byte that is in it is the other
abbrev pub AreAsked : List Bool → List Bool → Type 0
AreAsked listed asked = (b : ℕ) → b < 256 → slice_index_or asked b false ≡ true
    → is_asked (slice_index_or listed b false) b ≡ true
