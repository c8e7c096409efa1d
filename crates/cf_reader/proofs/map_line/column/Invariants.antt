use Rattle.std.proofs.Common.{◌≡◌, drop}
use Rattle.cf_reader.specs.MapLines.{column_of, has_bad_column}
use Rattle.cf_reader.proofs.map_line.column.Given as goal

-- what the column so far and the arguments that are left give is what all give
abbrev pub invariant-loop-arg : goal.invariant-loop-arg
invariant-loop-arg l = record {
  column : column_of l.letter l.column (drop l.arg-index l.args) ≡ column_of l.letter l.default l.args;
  bad : has_bad_column l.letter (drop l.arg-index l.args) ≡ has_bad_column l.letter l.args;
}
