use Rattle.std.proofs.Common.{◌≡◌, take, map}
use Rattle.map_tables.specs.Tables.{table}
use Rattle.map_tables.proofs.maps.tables.Given as goal

abbrev pub invariant-loop-line : goal.invariant-loop-line
invariant-loop-line l = l.tables ≡ map (table l.texts) (take l.line-index l.lines)
