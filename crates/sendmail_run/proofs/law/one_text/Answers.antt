use Rattle.sendmail_run.proofs.PrintingLemmas.{one_text}
use Rattle.sendmail_run.proofs.law.one_text.Goals as goal

pub returns : goal.returns
returns c = λ basis lines one another e f. one_text (λ maps config ls a b last later p q. c.one_text.ensures.text maps config ls a b last later p q) basis lines one another e f
