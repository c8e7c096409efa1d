-- What private contracts say of the bytes that a search for `$u` passes.
use Rattle.std.specs.Prelude.{◌≡◌, ◌≤◌, ℕ, List, length, drop}
use Rattle.mailer_pipe.specs.Arguments.{holds_user}

-- so many bytes may be passed, and the rest holds `$u` where the text does
pub record Passes (text : List ℕ) (width : ℕ) : Type 0 where
  pub some : 1 ≤ width
  pub within : width ≤ length text
  pub same : holds_user (drop width text) ≡ holds_user text
