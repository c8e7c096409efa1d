use Rattle.std.proofs.Common.{◌+◌, ◌-◌}
use Rattle.submit_run.specs.inner.Reading.{IsUnderWay}
use Rattle.submit_run.proofs.reading.read_all.Given as goal

-- what was taken so far ends no message
abbrev pub invariant-pieces : goal.invariant-pieces
invariant-pieces g l = IsUnderWay l.dot l.most (g.I.Source.seen l.fn.input) (g.I.Source.seen l.input) l.lines l.total

abbrev pub decreases-pieces : goal.decreases-pieces
decreases-pieces g l = l.most + 3 - l.total
