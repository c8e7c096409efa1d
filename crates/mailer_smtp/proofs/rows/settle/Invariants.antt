use Rattle.mailer_smtp.specs.Plans.{settled}
use Rattle.mailer_smtp.proofs.ConverseLemmas.{Settling}
use Rattle.mailer_smtp.proofs.rows.settle.Given as goal

abbrev pub invariant-loop-row : goal.invariant-loop-row
invariant-loop-row l = Settling (settled l.last) l.initial.rows l.rows l.row-index
