use Rattle.spool_store.proofs.Needed as lemmas
use Rattle.spool_store.proofs.queue_law.a_dead_child_may_come_alive.Goals as goal

pub returns : goal.returns
returns c = lemmas.whole_is_needed
