use Rattle.spool_store.proofs.Adding as lemmas
use Rattle.spool_store.proofs.queue_law.adding_settles.Goals as goal

pub returns : goal.returns
returns c = lemmas.added_settled
