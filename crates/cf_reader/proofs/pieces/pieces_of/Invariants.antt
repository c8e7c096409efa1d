use Rattle.std.proofs.Common.{◌≡◌, drop}
use Rattle.cf_reader.specs.Sides.{pieces_of}
use Rattle.cf_reader.specs.inner.Making.{added}
use Rattle.cf_reader.proofs.pieces.pieces_of.Given as goal

-- what stands so far and what the rest gives
abbrev pub invariant-loop-lexeme : goal.invariant-loop-lexeme
invariant-loop-lexeme l = added l.pieces (pieces_of (drop l.lexeme-index l.lexemes)) ≡ pieces_of l.lexemes
