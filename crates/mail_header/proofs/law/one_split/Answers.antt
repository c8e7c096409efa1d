use Rattle.mail_header.proofs.GrammarLemmas.{one_split}
use Rattle.mail_header.proofs.law.one_split.Goals as goal

pub returns : goal.returns
returns c = λ message one other a b. one_split message one other a b
