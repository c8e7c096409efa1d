use Rattle.std.proofs.Common.{◌≡◌, ◌≤◌, ◌+◌, length}
use Rattle.cf_reader.specs.inner.Scans.{left}
use Rattle.cf_reader.proofs.logical.next_line.Given as goal

-- the lines of the rest are those of the text
abbrev pub invariant-loop-rest : goal.invariant-loop-rest
invariant-loop-rest l = record {
  same : left l.number l.rest ≡ left l.fn.number l.fn.text;
  few : l.number + length l.rest ≤ l.fn.number + length l.fn.text;
  short : length l.rest ≤ length l.fn.text;
}

abbrev pub decreases-loop-rest : goal.decreases-loop-rest
decreases-loop-rest l = length l.rest
