use Rattle.std.proofs.Common.{◌-◌, ◌≤◌, length}
use Rattle.smtp_lines.proofs.EndLemmas.{NoneUpTo}
use Rattle.smtp_lines.proofs.reading.find_crlf.Given as goal

abbrev pub invariant-feeds : goal.invariant-feeds
invariant-feeds l = record {
  within : l.from ≤ length l.bytes;
  none : NoneUpTo l.bytes l.from;
}

abbrev pub decreases-feeds : goal.decreases-feeds
decreases-feeds l = length l.bytes - l.from
