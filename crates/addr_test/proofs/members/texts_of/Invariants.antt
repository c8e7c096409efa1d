use Rattle.std.proofs.Common.{◌≡◌, take}
use Rattle.addr_test.specs.Words as spec
use Rattle.addr_test.proofs.members.texts_of.Given as goal

abbrev pub invariant-loop-member : goal.invariant-loop-member
invariant-loop-member l = l.texts.items ≡ spec.texts_of (take l.member-index l.members)
