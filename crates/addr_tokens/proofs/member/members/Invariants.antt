use Rattle.std.proofs.Common.{◌≡◌, take}
use Rattle.std.specs.Prelude.{map}
use Rattle.addr_tokens.specs.Members.{member_of}
use Rattle.addr_tokens.proofs.member.members.Given as goal

abbrev pub invariant-loop-word : goal.invariant-loop-word
invariant-loop-word l = l.members ≡ map (member_of l.operators) (take l.word-index l.words)
