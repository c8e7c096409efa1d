use Rattle.std.proofs.Common.{◌≡◌, ◌++◌, ◌-◌, drop, length}
use Rattle.map_tables.specs.Quotes.{unquoted}
use Rattle.map_tables.proofs.quotes.unquoted.Given as goal

abbrev pub invariant-loop-place : goal.invariant-loop-place
invariant-loop-place l = l.plain ++ unquoted (drop l.place l.text) ≡ unquoted l.text

abbrev pub decreases-loop-place : goal.decreases-loop-place
decreases-loop-place l = length l.text - l.place
