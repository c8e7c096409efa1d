use Rattle.std.proofs.Common.{refl}
use Rattle.mail_core.proofs.SpeechLemmas.{open_of, parted_after}
use Rattle.mail_core.proofs.intake.part.Goals as goal

pub returns-then-say-clause-told : goal.returns-then-say-clause-told
returns-then-say-clause-told g c = parted_after _ _ _ c.args.session c.args.text.now c.if-say.ensures.told c.hang_up.ensures.told

pub hang_up-requires : goal.hang_up-requires
hang_up-requires g c = record { live = open_of _ c.args.session (c.if-say.ensures.sound refl) }
