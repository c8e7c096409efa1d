use Rattle.std.proofs.Common.{length}
use Rattle.handover.proofs.order.Order.read.Given as goal

abbrev pub decreases-lines : goal.decreases-lines
decreases-lines l = length l.rest
