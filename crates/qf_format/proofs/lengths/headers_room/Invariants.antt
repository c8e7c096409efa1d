use Rattle.std.proofs.Common.{◌≡◌, ◌-◌, ◌^◌, take, min, sum_by}
use Rattle.qf_format.specs.Room.{header_room}
use Rattle.qf_format.proofs.lengths.headers_room.Given as goal

abbrev pub invariant-loop-header : goal.invariant-loop-header
invariant-loop-header l = l.total ≡ min (sum_by header_room (take l.header-index l.headers)) (2 ^ 64 - 1)
