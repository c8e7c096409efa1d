use Rattle.std.proofs.Common.{◌≡◌, ◌+◌, drop}
use Rattle.std.specs.List.{prefix_len}
use Rattle.cf_reader.specs.MapLines.{is_dashed}
use Rattle.cf_reader.proofs.map_line.letters_len.Given as goal

abbrev pub invariant-loop-index : goal.invariant-loop-index
invariant-loop-index l = l.index + prefix_len is_dashed (drop l.index l.args) ≡ prefix_len is_dashed l.args
