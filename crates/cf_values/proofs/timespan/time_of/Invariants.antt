use Rattle.std.proofs.Common.{take}
use Rattle.cf_values.specs.inner.Stages.{Stands}
use Rattle.cf_values.proofs.timespan.time_of.Given as goal

abbrev pub invariant-loop-place : goal.invariant-loop-place
invariant-loop-place l = Stands l.under_way (take l.place l.text)
