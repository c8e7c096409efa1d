-- The table over what was opened.
use Rattle.queue_table.specs.Directories.{terms_of}
use Rattle.runner_samples.proofs.Lemmas.{over_standing}
use Rattle.runner_samples.proofs.opening.opened.Goals as goal

pub returns : goal.returns
returns g c = over_standing c.args.config.now _ c.in_ok-over.field-0 c.in_ok-queue.queue c.in_ok-dirs.dirs c.in_ok-over.ensures c.in_ok-queue.ensures.store.0 c.in_ok-queue.ensures.store.1 c.in_ok-dirs.ensures c.in_ok-queue.ensures.agrees
