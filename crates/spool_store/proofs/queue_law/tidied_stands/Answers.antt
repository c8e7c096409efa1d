use Rattle.spool_store.proofs.Tidying as lemmas
use Rattle.spool_store.proofs.queue_law.tidied_stands.Goals as goal

pub returns : goal.returns
returns c = lemmas.tidied_stands
