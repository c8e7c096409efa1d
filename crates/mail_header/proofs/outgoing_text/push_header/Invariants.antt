use Rattle.std.proofs.Common.{◌≡◌, ◌++◌, length}
use Rattle.mail_header.specs.Outgoing.{header_text}
use Rattle.mail_header.proofs.outgoing_text.push_header.Given as goal

-- what is written with the lines of the rest is all lines
abbrev pub invariant-lines : goal.invariant-lines
invariant-lines l = l.text.items ++ header_text l.end l.rest ≡ l.fn.text.items ++ header_text l.end l.header

abbrev pub decreases-lines : goal.decreases-lines
decreases-lines l = length l.rest
