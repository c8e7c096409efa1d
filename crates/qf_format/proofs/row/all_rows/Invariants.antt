use Rattle.std.proofs.Common.{length}
use Rattle.qf_format.specs.inner.Parts.{NotAt}
use Rattle.qf_format.specs.Spelling.{row_lines}
use Rattle.qf_format.specs.Valid.{IsRow}
use Rattle.qf_format.proofs.ListLemmas.{ReadSoFar}
use Rattle.qf_format.proofs.row.all_rows.Given as goal

abbrev pub invariant-rows : goal.invariant-rows
invariant-rows l = ReadSoFar row_lines IsRow (NotAt 82) l.fn.bytes l.rows l.rest

abbrev pub decreases-rows : goal.decreases-rows
decreases-rows l = length l.rest
