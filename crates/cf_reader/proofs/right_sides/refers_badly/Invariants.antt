use Rattle.std.proofs.Common.{◌≡◌, drop}
use Rattle.std.specs.List.{list_any}
use Rattle.cf_reader.specs.Sides.{is_bad_reference}
use Rattle.cf_reader.proofs.right_sides.refers_badly.Given as goal

abbrev pub invariant-loop-lexeme : goal.invariant-loop-lexeme
invariant-loop-lexeme l = list_any (is_bad_reference l.most) (drop l.lexeme-index l.lexemes) ≡ list_any (is_bad_reference l.most) l.lexemes
