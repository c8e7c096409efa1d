use Rattle.std.proofs.Common.{◌≡◌, drop}
use Rattle.cf_reader.specs.Sides.{items_of}
use Rattle.cf_reader.specs.inner.Making.{added}
use Rattle.cf_reader.proofs.left_sides.items_of.Given as goal

-- what stands so far and what the rest gives
abbrev pub invariant-loop-lexeme : goal.invariant-loop-lexeme
invariant-loop-lexeme l = added l.items (items_of (drop l.lexeme-index l.lexemes)) ≡ items_of l.lexemes
