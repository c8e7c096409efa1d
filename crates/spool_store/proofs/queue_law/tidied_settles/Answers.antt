use Rattle.spool_store.proofs.Sweeping as lemmas
use Rattle.spool_store.proofs.queue_law.tidied_settles.Goals as goal

pub returns : goal.returns
returns c = lemmas.tidied_settled
