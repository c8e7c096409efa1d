use Rattle.spool_store.proofs.Samples as lemmas
use Rattle.spool_store.proofs.queue_law.samples_settle.Goals as goal

pub returns-clause-empty : goal.returns-clause-empty
returns-clause-empty c = lemmas.empty_settled

pub returns-clause-one : goal.returns-clause-one
returns-clause-one c = lemmas.one_settled
