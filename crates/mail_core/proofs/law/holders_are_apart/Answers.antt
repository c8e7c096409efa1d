use Rattle.mail_core.proofs.TurnedLemmas.{none_apart, run_few}
use Rattle.mail_core.proofs.law.holders_are_apart.Goals as goal

pub returns : goal.returns
returns c = record { goes_on = λ site m turns few. run_few site m turns few; begins = λ site. none_apart site }
