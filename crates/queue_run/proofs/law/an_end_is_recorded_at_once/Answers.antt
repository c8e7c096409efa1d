-- By what a poll reads, and by what a delivery comes to.
use Rattle.queue_run.proofs.LawLemmas.{polled_at_once, talked_at_once}
use Rattle.queue_run.proofs.law.an_end_is_recorded_at_once.Goals as goal

pub returns-clause-polled : goal.returns-clause-polled
returns-clause-polled c = λ config moment table h r luck id child status more e. polled_at_once config moment table h r luck id child status more e

pub returns-clause-talked : goal.returns-clause-talked
returns-clause-talked c = λ config moment table h batch mailer peers luck id places talk more e. talked_at_once config moment table h batch mailer luck id places talk more e
