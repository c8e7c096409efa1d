use Rattle.std.proofs.Common.{◌≡◌, ◌++◌, length}
use Rattle.dsn_bounce.specs.Returned.{header_lines}
use Rattle.dsn_bounce.proofs.notice.push_header.Given as goal

-- what is written with the lines of the rest is all lines
abbrev pub invariant-lines : goal.invariant-lines
invariant-lines l = l.text ++ header_lines l.rest ≡ l.fn.text ++ header_lines l.header

abbrev pub decreases-lines : goal.decreases-lines
decreases-lines l = length l.rest
