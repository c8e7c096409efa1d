use Rattle.mail_submit.proofs.SubmitLemmas.{same_submission}
use Rattle.mail_submit.proofs.law.one_submission.Goals as goal

pub returns : goal.returns
returns c = λ text from_headers one other a b. same_submission text from_headers one other a b (c.one_split.ensures text a.split b.split a.is b.is)
