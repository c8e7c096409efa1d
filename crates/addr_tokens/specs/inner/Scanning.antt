-- The scan of a text, piece by piece.
use Rattle.std.specs.Prelude.{◌≡◌, ℕ, ◌+◌, ◌≤◌, Bool, List, length, drop, Result, Ok, Err}
use Rattle.addr_tokens.specs.declared.lexeme.Lexeme.{Lexeme}
use Rattle.addr_tokens.specs.declared.fault.ScanFault.{ScanFault}
use Rattle.addr_tokens.specs.Pieces.{Alphabet}
use Rattle.addr_tokens.specs.Scans.{ExplainsFault}
use Rattle.addr_tokens.specs.Reader.{gathered, outcome_on, outcome_of}

-- how the scan goes on from a place, where the rest of the text begins
pub record At (alphabet : Alphabet) (angles : Bool) (text : List ℕ) (checked : Bool) (place : ℕ)
    (lefts : List ℕ) (is_long : Bool) (lexemes : List Lexeme) : Type 0 where
  pub within : place ≤ length text
  pub outcome : gathered is_long lexemes (outcome_on alphabet checked place lefts (drop place text))
      ≡ outcome_of alphabet angles text

-- what a step of the scan answers: it goes on behind so many bytes, or the fault is that of the
-- text
abbrev pub Goes : Alphabet → Bool → List ℕ → Bool → ℕ → List ℕ → Bool → List Lexeme
    → Result ℕ ScanFault → Type 0
Goes alphabet angles text checked place lefts is_long lexemes (Ok size) =
    At alphabet angles text checked (place + size) lefts is_long lexemes
Goes alphabet angles text checked place lefts is_long lexemes (Err fault) =
    ExplainsFault alphabet angles text fault
