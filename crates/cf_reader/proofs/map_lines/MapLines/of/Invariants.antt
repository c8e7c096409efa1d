use Rattle.std.proofs.Common.{◌≡◌}
use Rattle.cf_reader.proofs.map_lines.MapLines.of.Given as goal

abbrev pub invariant-loop-line : goal.invariant-loop-line
invariant-loop-line l = l.maps ≡ l.yielded
