use Rattle.std.proofs.Common.{[]}
use Rattle.smtp_lines.proofs.ReadingLemmas.{stands-reading, follows_refused}
use Rattle.smtp_lines.proofs.stream.all_given.Goals as goal

pub returns : goal.returns
returns c = λ r s st nil. stands-reading r s s.granted [] st nil (follows_refused s.granted r.under.may_turn)
