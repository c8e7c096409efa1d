use Rattle.spool_store.proofs.Standing as lemmas
use Rattle.spool_store.proofs.queue_law.one_table.Goals as goal

pub returns : goal.returns
returns c = lemmas.one_table
