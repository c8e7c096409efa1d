-- What is said of a construct that was found.
use Rattle.std.specs.Prelude.{ℕ, ◌+◌, ◌≤◌, ◌≡◌}
use Rattle.cf_macros.specs.declared.construct.Construct.{Construct}
use Rattle.cf_macros.specs.declared.construct.Naming.{Naming}
use Rattle.cf_macros.specs.declared.construct.Naming.TheVariants.{Letter, Word, Open, Nameless}
use Rattle.cf_macros.specs.Constructs.{Piece}

-- what the naming takes is within so many bytes
abbrev pub IsWithin : Naming → ℕ → Type 0
IsWithin Letter bytes = 1 ≤ bytes
IsWithin (Word length) bytes = length + 2 ≤ bytes
IsWithin Open bytes = 1 ≤ bytes
IsWithin Nameless bytes = Unit {0}

-- the construct is that piece, and takes a front of so many bytes
pub record Shows (found : Construct) (wanted : Piece) (bytes : ℕ) : Type 0 where
  pub kind : found.kind ≡ wanted.kind
  pub text : found.text.now ≡ wanted.text
  pub width : found.width ≡ wanted.width
  pub moves : 1 ≤ found.width
  pub within : found.width ≤ bytes
