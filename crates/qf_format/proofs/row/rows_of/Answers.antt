use Rattle.std.proofs.Common.{arith, refl}
use Rattle.std.proofs.lemmas.Result.{err_from_is_err_and}
use Rattle.mail_base.specs.Limits.{most_rows}
use Rattle.qf_format.proofs.RowLemmas.{are_rows, no_empty, not_few, rows_away, rows_stop, rows_whole, some_rows}
use Rattle.qf_format.proofs.row.rows_of.Goals as goal

pub returns-in_err-rows : goal.returns-in_err-rows
returns-in_err-rows c =
    let p = err_from_is_err_and c.from_residual.result c.from_residual.ensures.1 in
    rw (p.1, p.2) (rows_stop c.args.bytes.now c.in_err-rows.field-0.0 c.in_err-rows.ensures)

pub returns-then-is_empty : goal.returns-then-is_empty
returns-then-is_empty c = rows_away c.args.bytes.now c.in_ok-rows.rows c.in_ok-rows.rest.now c.in_ok-rows.ensures (no_empty c.in_ok-rows.rows (c.if-is_empty.ensures.0 refl))

pub returns-then-len-gt-MOST_ROWS : goal.returns-then-len-gt-MOST_ROWS
unfolding most_rows
returns-then-len-gt-MOST_ROWS c = rows_away c.args.bytes.now c.in_ok-rows.rows c.in_ok-rows.rest.now c.in_ok-rows.ensures (not_few c.in_ok-rows.rows (omega arith))

pub returns : goal.returns
unfolding most_rows
returns c =
    rows_whole c.args.bytes.now c.in_ok-rows.rows c.in_ok-rows.rest.now c.in_ok-rows.ensures (are_rows c.args.bytes.now c.in_ok-rows.rows c.in_ok-rows.rest.now c.in_ok-rows.ensures (some_rows c.in_ok-rows.rows c.if-is_empty.ensures.1) (omega arith))
