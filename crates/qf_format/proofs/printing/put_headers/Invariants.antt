use Rattle.std.proofs.Common.{◌≡◌, take}
use Rattle.std.specs.List.{flat_map}
use Rattle.qf_format.specs.Sheets.{with_more}
use Rattle.qf_format.specs.Spelling.{header_lines}
use Rattle.qf_format.proofs.printing.put_headers.Given as goal

abbrev pub invariant-loop-header : goal.invariant-loop-header
invariant-loop-header l = l.paper ≡ with_more l.fn.paper (flat_map header_lines (take l.header-index l.headers))
