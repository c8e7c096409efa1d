use Rattle.std.proofs.Common.{◌≡◌, fold, length}
use Rattle.map_tables.specs.Tables.{file_pairs, first_pairs, with_first}
use Rattle.map_tables.proofs.table.pairs_of.Given as goal

-- the pairs so far with those of the rest are all pairs
abbrev pub invariant-lines : goal.invariant-lines
invariant-lines l = fold with_first l.pairs (file_pairs l.map l.rest) ≡ first_pairs (file_pairs l.map l.text)

abbrev pub decreases-lines : goal.decreases-lines
decreases-lines l = length l.rest
