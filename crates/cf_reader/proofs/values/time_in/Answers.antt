use Rattle.cf_reader.proofs.ValueLemmas.{time_read, time_refused}
use Rattle.cf_reader.proofs.values.time_in.Goals as goal

pub returns-in-Ok : goal.returns-in-Ok
returns-in-Ok c = time_read c.args.unit c.args.text.now c.in-Ok.seconds c.in-Ok.ensures.ok.0 c.in-Ok.ensures.ok.1

pub returns-in-Err : goal.returns-in-Err
returns-in-Err c = time_refused c.args.unit c.args.text.now c.time.result _ c.in-Err.is c.time.ensures.value
