use Rattle.std.proofs.Common.{◌≡◌, ◌≤◌, ◌+◌, length, take}
use Rattle.std.specs.List.{suffix_len}
use Rattle.mail_header.specs.Places.{is_gap}
use Rattle.mail_header.proofs.member.stripped.Given as goal

abbrev pub invariant-parts : goal.invariant-parts
invariant-parts l = record {
  within : l.end ≤ length l.rest;
  gaps : l.end + suffix_len is_gap l.rest ≡ length l.rest + suffix_len is_gap (take l.end l.rest);
}

abbrev pub decreases-parts : goal.decreases-parts
decreases-parts l = l.end
