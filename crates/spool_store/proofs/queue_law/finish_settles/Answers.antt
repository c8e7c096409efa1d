use Rattle.spool_store.proofs.Sweeping as lemmas
use Rattle.spool_store.proofs.queue_law.finish_settles.Goals as goal

pub returns : goal.returns
returns c = record { body = lemmas.finish_body }
