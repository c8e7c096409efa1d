use Rattle.std.proofs.Common.{sym, ◌∙◌}
use Rattle.std.proofs.lemmas.Result.{err_from_is_err_and}
use Rattle.qf_format.proofs.RowLemmas.{no_rows_yet, row_more, rows_read, row_stops, row_shorter}
use Rattle.qf_format.proofs.row.all_rows.Goals as goal

pub rows-init : goal.rows-init
rows-init c = rw c.new-rows.ensures (no_rows_yet c.args.bytes.now)

pub returns-in_err-row : goal.returns-in_err-row
returns-in_err-row c =
    let p = err_from_is_err_and c.from_residual.result c.from_residual.ensures.1 in
    rw (p.1, p.2) (row_stops c.args.bytes.now c.rows.rows c.rows.rest.now c.rows.invariant (sym c.first_byte.ensures ∙ c.rows-test.true) c.in_err-row.field-0.0 c.in_err-row.ensures)

pub rows-preserved : goal.rows-preserved
rows-preserved c = rw c.in_ok-push.ensures.ok (row_more c.args.bytes.now c.rows.rows c.rows.rest.now c.in_ok-row.row c.in_ok-row.after.now c.rows.invariant c.in_ok-row.ensures)

pub rows-smaller : goal.rows-smaller
rows-smaller c = row_shorter c.rows.rest.now c.in_ok-row.row c.in_ok-row.after.now c.in_ok-row.ensures

pub returns : goal.returns
returns c = rows_read c.args.bytes.now c.rows.rows c.rows.rest.now c.rows.invariant (λ e. c.rows-test.false (c.first_byte.ensures ∙ e))
