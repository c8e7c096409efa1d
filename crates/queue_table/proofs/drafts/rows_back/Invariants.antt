-- The rows so far.
use Rattle.std.proofs.Common.{◌≡◌, map, take}
use Rattle.queue_table.specs.inner.Planning.{row_by}
use Rattle.queue_table.proofs.drafts.rows_back.Given as goal

abbrev pub invariant-loop-row : goal.invariant-loop-row
invariant-loop-row l = l.back ≡ map (row_by l.bounce) (take l.row-index l.rows)
