use Rattle.spool_store.proofs.Reading as lemmas
use Rattle.spool_store.proofs.queue_law.one_control.Goals as goal

pub returns : goal.returns
returns c = lemmas.one_control
