use Rattle.std.proofs.Common.{◌≡◌, ◌++◌, length}
use Rattle.alias_expand.specs.Members.{file_members}
use Rattle.alias_expand.proofs.members.lines_members.Given as goal

-- the members so far with those of the rest are all
abbrev pub invariant-lines : goal.invariant-lines
invariant-lines l = l.members ++ file_members l.rest ≡ file_members l.text

abbrev pub decreases-lines : goal.decreases-lines
decreases-lines l = length l.rest
