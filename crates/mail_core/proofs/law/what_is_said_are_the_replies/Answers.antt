use Rattle.mail_core.proofs.ToldLemmas.{piece_told}
use Rattle.mail_core.proofs.law.what_is_said_are_the_replies.Goals as goal

pub returns : goal.returns
returns c = λ site moment table g choices. piece_told site moment table g choices
