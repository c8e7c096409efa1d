-- The bytes that are held of input.
use Rattle.std.specs.Prelude.{ℕ, List}

-- the text of whole lines, and the bytes of one that isn't whole
pub record Parts : Type 0 where
  pub text : List ℕ
  pub line : List ℕ
