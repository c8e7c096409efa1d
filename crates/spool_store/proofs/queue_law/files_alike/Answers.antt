use Rattle.std.proofs.Common.{◌<◌}
use Rattle.spool_store.proofs.Carrying as lemmas
use Rattle.spool_store.proofs.queue_law.files_alike.Goals as goal

pub returns-clause-strange : goal.returns-clause-strange
returns-clause-strange c = λ dirs n f g. lemmas.strange_alike dirs (λ id. id < n) f g

pub returns-clause-live : goal.returns-clause-live
returns-clause-live c = λ dirs n f g. lemmas.live_alike dirs (λ id. id < n) f g
