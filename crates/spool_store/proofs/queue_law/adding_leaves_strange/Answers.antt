use Rattle.spool_store.proofs.Adding as lemmas
use Rattle.spool_store.proofs.queue_law.adding_leaves_strange.Goals as goal

pub returns-clause-to : goal.returns-clause-to
returns-clause-to c = lemmas.added_strange

pub returns-clause-from : goal.returns-clause-from
returns-clause-from c = lemmas.added_strange_back
