-- What a text hands over is in its forms, and comes to what it comes to.
use Rattle.submit_run.proofs.FormLemmas.{sound_of}
use Rattle.submit_run.proofs.handing.handed_over.Goals as goal

pub come-requires-clause-sound : goal.come-requires-clause-sound
come-requires-clause-sound g c = sound_of c.args.text.now c.args.words.now.from_headers c.in_ok-submission.submission c.in_ok-submission.ensures
