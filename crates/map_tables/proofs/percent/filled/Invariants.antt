use Rattle.std.proofs.Common.{◌≡◌, ◌++◌, ◌-◌, drop, length}
use Rattle.map_tables.specs.Percents.{filled}
use Rattle.map_tables.proofs.percent.filled.Given as goal

-- the text so far and what the rest of the value gives are the whole
abbrev pub invariant-loop-place : goal.invariant-loop-place
invariant-loop-place l = l.text ++ filled l.key l.args (drop l.place l.value) ≡ filled l.key l.args l.value

abbrev pub decreases-loop-place : goal.decreases-loop-place
decreases-loop-place l = length l.value - l.place
