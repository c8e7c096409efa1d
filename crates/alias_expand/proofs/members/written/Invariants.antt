use Rattle.std.proofs.Common.{◌≡◌, ◌++◌, length}
use Rattle.alias_expand.specs.Members.{written}
use Rattle.alias_expand.proofs.members.written.Given as goal

-- the members so far with those of the rest are all
abbrev pub invariant-pieces : goal.invariant-pieces
invariant-pieces l = l.texts ++ written l.rest ≡ written l.text

abbrev pub decreases-pieces : goal.decreases-pieces
decreases-pieces l = length l.rest
