-- The table may be changed after the call.
use Rattle.table_samples.proofs.Lemmas.{ready_after}
use Rattle.table_samples.proofs.calls.record.Goals as goal

pub returns-in-Ok-record : goal.returns-in-Ok-record
returns-in-Ok-record g c = ready_after _ _ c.args.table.now c.record.new.self c.requires.ready c.in-Ok-record.ensures.stays c.in-Ok-record.ensures.agrees
