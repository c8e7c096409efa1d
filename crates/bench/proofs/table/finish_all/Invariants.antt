-- The table has what the files have.
use Rattle.spool_disk.specs.Changes.{after_all}
use Rattle.spool_store.specs.Stores.{Agrees}
use Rattle.queue_table.specs.Calls.{store}
use Rattle.bench.proofs.table.finish_all.Given as goal

abbrev pub invariant-loop-place : goal.invariant-loop-place
invariant-loop-place l = Agrees (store l.table) (after_all l.spool.past l.spool.start)
