-- The table over what was opened.
use Rattle.queue_table.specs.Directories.{terms_of}
use Rattle.table_samples.proofs.Lemmas.{over_ready}
use Rattle.table_samples.proofs.calls.opened.Goals as goal

pub returns : goal.returns
returns g c = over_ready _ c.in_ok-over.field-0 c.in_ok-queue.queue (terms_of c.args.config.now) c.in_ok-dirs.dirs c.in_ok-over.ensures c.in_ok-queue.ensures.store.0 c.in_ok-dirs.ensures c.in_ok-queue.ensures.agrees
