-- What private contracts say of a run over a stream.
use Rattle.std.specs.Prelude.{◌≡◌, ℕ, Bool, false, List, [], ◌∷◌, ◌++◌, drop}
use Rattle.smtp_lines.specs.declared.line.Line.{Line}
use Rattle.smtp_lines.specs.Stream.{first_grant}
use Rattle.smtp_lines.specs.Reader.{Reader, Stream, Stands, awaited}

-- these were answered by the grants, and the rest of the grants is left
abbrev pub Follows : List Bool → List Bool → List Bool → Type 0
Follows grants [] rest = rest ≡ grants
Follows grants (grant ∷ answered) rest =
    (grant ≡ first_grant grants) × Follows (drop 1 grants) answered rest

-- the reader has given these lines of these bytes, and nothing is left unread
pub record ReadSoFar (grants rest : List Bool) (r : Reader) (lines : List Line)
    (bytes : List ℕ) : Type 0 where
  pub stream : Stream
  pub stands : Stands r stream
  pub follows : Follows grants (stream.granted ++ awaited r.under.may_turn false) rest
  pub lines_are : stream.lines ≡ lines
  pub bytes_are : stream.received ≡ bytes
  pub all : r.left ≡ []
