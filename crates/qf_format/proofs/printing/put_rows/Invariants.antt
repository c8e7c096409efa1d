use Rattle.std.proofs.Common.{◌≡◌, take}
use Rattle.std.specs.List.{flat_map}
use Rattle.qf_format.specs.Sheets.{with_more}
use Rattle.qf_format.specs.Spelling.{row_lines}
use Rattle.qf_format.proofs.printing.put_rows.Given as goal

abbrev pub invariant-loop-row : goal.invariant-loop-row
invariant-loop-row l = l.paper ≡ with_more l.fn.paper (flat_map row_lines (take l.row-index l.rows))
