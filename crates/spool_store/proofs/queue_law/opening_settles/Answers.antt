use Rattle.spool_store.proofs.Sweeping as lemmas
use Rattle.spool_store.proofs.queue_law.opening_settles.Goals as goal

pub returns-clause-tidied : goal.returns-clause-tidied
returns-clause-tidied c = lemmas.swept_settled

pub returns-clause-clean : goal.returns-clause-clean
returns-clause-clean c = lemmas.swept_clean

pub returns-clause-strange : goal.returns-clause-strange
returns-clause-strange c = lemmas.strange_keeps

pub returns-clause-same : goal.returns-clause-same
returns-clause-same c = lemmas.tidied_same
