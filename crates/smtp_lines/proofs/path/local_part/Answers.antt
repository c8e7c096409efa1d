use Rattle.smtp_lines.proofs.FoundLemmas.{before_at, no_at}
use Rattle.smtp_lines.proofs.path.local_part.Goals as goal

pub returns-in-Some : goal.returns-in-Some
returns-in-Some c = before_at c.args.path.now c.in-Some.at c.in-Some.ensures

pub returns-in-None : goal.returns-in-None
returns-in-None c = no_at c.args.path.now c.in-None.ensures
