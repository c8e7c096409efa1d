use Rattle.std.proofs.Common.{◌≡◌, ◌+◌, drop, not}
use Rattle.std.specs.List.{prefix_len}
use Rattle.cf_reader.specs.inner.Making.{is_bracket}
use Rattle.cf_reader.proofs.signs.length_to_bracket.Given as goal

abbrev pub invariant-loop-index : goal.invariant-loop-index
invariant-loop-index l = l.index + prefix_len (λ lexeme. not (is_bracket lexeme)) (drop l.index l.lexemes) ≡ prefix_len (λ lexeme. not (is_bracket lexeme)) l.lexemes
