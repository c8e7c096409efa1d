use Rattle.std.proofs.Common.{length}
use Rattle.handed.proofs.order.Order.read.Given as goal

abbrev pub decreases-lines : goal.decreases-lines
decreases-lines l = length l.rest
