-- A store holds one entry of an id.
use Rattle.queue_run.proofs.PutLemmas.{reserved_control}
use Rattle.queue_run.proofs.putting.reserve.Goals as goal

pub returns-clause-control : goal.returns-clause-control
returns-clause-control c = λ h among is. reserved_control c.args.table.now c.args.id.now h c.reserve.result c.entries-held.ensures.ascending among is c.reserve.ensures.id c.reserve.ensures.is
