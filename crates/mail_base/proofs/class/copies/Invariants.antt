use Rattle.std.proofs.Common.{◌≡◌, take}
use Rattle.mail_base.proofs.class.copies.Given as goal

abbrev pub invariant-loop-member : goal.invariant-loop-member
invariant-loop-member l = l.copied ≡ take l.member-index l.members
