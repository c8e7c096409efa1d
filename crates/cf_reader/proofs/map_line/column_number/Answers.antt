use Rattle.cf_reader.proofs.ColumnLemmas.{column_read, column_refused}
use Rattle.cf_reader.proofs.map_line.column_number.Goals as goal

pub returns-in-Ok : goal.returns-in-Ok
returns-in-Ok c = column_read c.computed_values.ensures.number c.args.value.now c.in-Ok.column c.in-Ok.ensures.ok.0 c.in-Ok.ensures.ok.1

pub returns-in-Err : goal.returns-in-Err
returns-in-Err c = column_refused c.computed_values.ensures.number c.args.value.now c.number.result _ c.in-Err.is c.number.ensures.value
