use Rattle.spool_store.proofs.Verdicts as lemmas
use Rattle.spool_store.proofs.queue_law.a_read_map_has_a_table.Goals as goal

pub returns : goal.returns
returns c = lemmas.live_stands
