use Rattle.std.proofs.Common.{◌≡◌, ◌++◌, map, take}
use Rattle.alias_expand.specs.Members.{member_of}
use Rattle.alias_expand.proofs.members.push_members.Given as goal

abbrev pub invariant-loop-text : goal.invariant-loop-text
invariant-loop-text l = l.members ≡ l.fn.members ++ map member_of (take l.text-index l.texts)
