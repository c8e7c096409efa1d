-- The rows so far.
use Rattle.std.proofs.Common.{◌≡◌, map, take}
use Rattle.queue_table.specs.Commands.{new_row}
use Rattle.queue_table.proofs.drafts.rows_of.Given as goal

abbrev pub invariant-loop-draw : goal.invariant-loop-draw
invariant-loop-draw l = l.rows ≡ map new_row (take l.draw-index l.draws)
