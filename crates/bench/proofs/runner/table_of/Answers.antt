-- It stands over the spool that it was opened from.
use Rattle.bench.proofs.Lemmas.{whole_of}
use Rattle.bench.proofs.runner.table_of.Goals as goal

pub returns : goal.returns
returns c = whole_of _ _ _ c.opened.ensures
