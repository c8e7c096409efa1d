-- One lemma each.
use Rattle.spool_store.proofs.HoldingLemmas.{one_after, one_with}
use Rattle.spool_store.proofs.queue_law.a_commit_of_one.Goals as goal

pub returns-clause-table : goal.returns-clause-table
returns-clause-table c = one_after

pub returns-clause-store : goal.returns-clause-store
returns-clause-store c = one_with
