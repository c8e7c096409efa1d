use Rattle.cf_reader.proofs.ValueLemmas.{number_read, number_refused}
use Rattle.cf_reader.proofs.values.number_in.Goals as goal

pub returns-in-Ok-clause-value : goal.returns-in-Ok-clause-value
returns-in-Ok-clause-value c = number_read c.args.most c.args.text.now c.in-Ok.number c.in-Ok.ensures.ok.0 c.in-Ok.ensures.ok.1

pub returns-in-Err-clause-value : goal.returns-in-Err-clause-value
returns-in-Err-clause-value c = number_refused c.args.most c.args.text.now c.number.result _ c.in-Err.is c.number.ensures.value
