use Rattle.std.proofs.Common.{◌≡◌, ◌+◌, drop}
use Rattle.std.specs.List.{prefix_len}
use Rattle.mail_header.specs.Places.{is_gap}
use Rattle.mail_header.proofs.member.gaps.Given as goal

abbrev pub invariant-loop-index : goal.invariant-loop-index
invariant-loop-index l = l.index + prefix_len is_gap (drop l.index l.member) ≡ prefix_len is_gap l.member
