use Rattle.std.proofs.Common.{◌-◌, length}
use Rattle.mail_header.proofs.WholeLemmas.{ReadsHeaders}
use Rattle.mail_header.proofs.whole.split_text.Given as goal

abbrev pub invariant-lines : goal.invariant-lines
invariant-lines l = ReadsHeaders l.text l.place l.headers

abbrev pub decreases-lines : goal.decreases-lines
decreases-lines l = length l.text - l.place
