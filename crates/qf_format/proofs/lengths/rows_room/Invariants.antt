use Rattle.std.proofs.Common.{◌≡◌, ◌-◌, ◌^◌, take, min, sum_by}
use Rattle.qf_format.specs.Room.{addresses, row_room}
use Rattle.qf_format.proofs.lengths.rows_room.Given as goal

abbrev pub invariant-loop-row : goal.invariant-loop-row
invariant-loop-row l = l.total ≡ min (sum_by row_room (addresses (take l.row-index l.rows))) (2 ^ 64 - 1)
