use Rattle.std.proofs.Common.{sym, ap, ◌∙◌}
use Rattle.mail_header.specs.Gatherings.{counted}
use Rattle.mail_header.proofs.SizeLemmas.{ended_size}
use Rattle.mail_header.proofs.gathered.Gathered.size.Goals as goal

pub returns-clause-lines : goal.returns-clause-lines
returns-clause-lines c = λ limit lines gathers. gathers.size ∙ ap (counted limit) (sym (ended_size lines))
