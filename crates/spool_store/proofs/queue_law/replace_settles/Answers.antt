use Rattle.spool_store.proofs.Replacing as lemmas
use Rattle.spool_store.proofs.queue_law.replace_settles.Goals as goal

pub returns : goal.returns
returns c = lemmas.replaced_settled
