use Rattle.mail_core.proofs.SpeechLemmas.{open_of}
use Rattle.mail_core.proofs.intake.drop_caller.Goals as goal

pub hang_up-requires : goal.hang_up-requires
hang_up-requires g c = record { live = open_of _ c.args.session c.requires.sound }
