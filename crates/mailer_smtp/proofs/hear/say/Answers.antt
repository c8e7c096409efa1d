use Rattle.mailer_smtp.proofs.HearLemmas.{went_wrote, went_unwritten}
use Rattle.mailer_smtp.proofs.hear.say.Goals as goal

pub returns-in-Ok-clause-went : goal.returns-in-Ok-clause-went
returns-in-Ok-clause-went g c = λ lost next bytes. went_wrote _ _ _ _ lost next bytes c.requires.sound c.in-Ok.ensures.told c.in-Ok.ensures.missed c.in-Ok.ensures.calm

pub returns-in-Err-clause-went : goal.returns-in-Err-clause-went
returns-in-Err-clause-went g c = λ lost next bytes. went_unwritten _ _ _ _ lost next bytes c.requires.sound c.in-Err.ensures.told c.in-Err.ensures.missed c.in-Err.ensures.cause.later c.in-Err.ensures.cause.failed
