use Rattle.std.proofs.Common.{◌≡◌, ◌++◌, length}
use Rattle.map_tables.specs.Hosts.{host_lines}
use Rattle.map_tables.proofs.hosts.host_lines.Given as goal

-- the lines so far with those of the rest are all lines
abbrev pub invariant-lines : goal.invariant-lines
invariant-lines l = l.hosts ++ host_lines l.rest ≡ host_lines l.text

abbrev pub decreases-lines : goal.decreases-lines
decreases-lines l = length l.rest
