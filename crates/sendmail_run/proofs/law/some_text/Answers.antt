use Rattle.sendmail_run.proofs.PrintingLemmas.{some_text}
use Rattle.sendmail_run.proofs.law.some_text.Goals as goal

pub returns : goal.returns
returns c = λ basis lines. some_text c.some_text.ensures basis lines
