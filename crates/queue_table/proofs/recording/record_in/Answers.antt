-- Numbers and rows are in their ranges.
use Rattle.std.specs.Prelude.{FitsSigned}
use Rattle.std.specs.Int.{w128}
use Rattle.std.proofs.lemmas.Int.{to_z-of_z}
use Rattle.queue_table.proofs.ResultLemmas.{recorded_valid}
use Rattle.queue_table.proofs.recording.record_in.Goals as goal

pub returns-clause-valid : goal.returns-clause-valid
returns-clause-valid c = λ v.
    let fits : FitsSigned w128 c.retried-control.result = record { sfits = c.retried-control.type_inv } in
    rw (to_z-of_z w128 c.retried-control.result fits) (recorded_valid c.args.control.now c.args.moment c.saturating_add-control.result c.saturating_add-control-2.result c.retried-control.result c.put_in_rows.new.rows v c.saturating_add-control.ensures c.ranges.moment.fits c.saturating_add-control-2.ensures fits (c.put_in_rows.ensures.form v.rows_form))
