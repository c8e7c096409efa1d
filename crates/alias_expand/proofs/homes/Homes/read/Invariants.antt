use Rattle.std.proofs.Common.{◌≡◌, fold, length}
use Rattle.map_tables.specs.Tables.{with_first}
use Rattle.alias_expand.specs.Homes.{home_lines, homes_of}
use Rattle.alias_expand.proofs.homes.Homes.read.Given as goal

-- the homes so far with those of the rest are all
abbrev pub invariant-lines : goal.invariant-lines
invariant-lines l = fold with_first l.homes (home_lines l.rest) ≡ homes_of l.text

abbrev pub decreases-lines : goal.decreases-lines
decreases-lines l = length l.rest
