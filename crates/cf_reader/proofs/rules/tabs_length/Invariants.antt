use Rattle.std.proofs.Common.{◌≡◌, ◌+◌, drop}
use Rattle.std.specs.List.{prefix_len}
use Rattle.cf_reader.specs.Sides.{is_tab}
use Rattle.cf_reader.proofs.rules.tabs_length.Given as goal

abbrev pub invariant-loop-index : goal.invariant-loop-index
invariant-loop-index l = l.index + prefix_len is_tab (drop l.index l.text) ≡ prefix_len is_tab l.text
