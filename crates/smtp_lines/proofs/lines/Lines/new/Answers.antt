use Rattle.smtp_lines.proofs.StandLemmas.{stands_at, stands_fresh}
use Rattle.smtp_lines.proofs.lines.Lines.new.Goals as goal

pub returns-clause-stands : goal.returns-clause-stands
returns-clause-stands c = stands_at _ _ _ _ _ c.new.ensures c.new-2.ensures.items stands_fresh
