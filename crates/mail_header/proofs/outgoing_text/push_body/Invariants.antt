use Rattle.std.proofs.Common.{◌-◌, length}
use Rattle.mail_header.proofs.EndsLemmas.{IsWritten}
use Rattle.mail_header.proofs.outgoing_text.push_body.Given as goal

abbrev pub invariant-lines : goal.invariant-lines
invariant-lines l = IsWritten l.end l.body l.fn.text.items l.place l.text.items

abbrev pub decreases-lines : goal.decreases-lines
decreases-lines l = length l.body - l.place
