use Rattle.std.proofs.Common.{not, ◌∙◌, ap}
use Rattle.mail_core.proofs.SpeechLemmas.{open_of, open_sent, said_badly}
use Rattle.mail_core.proofs.speech.say.Goals as goal

pub returns-then-is_err-clause-told : goal.returns-then-is_err-clause-told
returns-then-is_err-clause-told g c = said_badly _ _ _ c.args.session c.args.text.now _ (c.is_err.ensures.negation ∙ ap not c.if-is_err.true) c.send.ensures.told c.hang_up.ensures.told

pub hang_up-requires : goal.hang_up-requires
hang_up-requires g c = record { live = open_sent _ _ c.args.session c.args.text.now _ (open_of _ c.args.session c.requires.sound) c.send.ensures.told }
