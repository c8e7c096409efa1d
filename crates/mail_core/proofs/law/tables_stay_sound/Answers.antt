use Rattle.std.proofs.Common.{subst}
use Rattle.mail_core.specs.Judges.{untold}
use Rattle.mail_core.proofs.LeadLemmas.{AreFit}
use Rattle.mail_core.proofs.RunsLemmas.{begins_works, sound_front}
use Rattle.mail_core.proofs.law.tables_stay_sound.Goals as goal

pub returns : goal.returns
returns c = λ site m turns none meant sound done rest is.
    let works = begins_works untold site m turns none sound meant in
    sound_front m.table done rest sound (subst (AreFit m.table) is works.fit)
