use Rattle.std.proofs.Common.{◌≡◌, ◌≤◌, ◌+◌, length, take}
use Rattle.std.specs.List.{suffix_len}
use Rattle.mail_base.specs.Whites.{is_white}
use Rattle.mail_base.proofs.ends.stripped.Given as goal

abbrev pub invariant-bytes : goal.invariant-bytes
invariant-bytes l = record {
  within : l.end ≤ length l.rest;
  white : l.end + suffix_len is_white l.rest ≡ length l.rest + suffix_len is_white (take l.end l.rest);
}

abbrev pub decreases-bytes : goal.decreases-bytes
decreases-bytes l = l.end
