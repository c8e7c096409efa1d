use Rattle.std.proofs.lemmas.Result.{err_from_is_err_and}
use Rattle.qf_format.proofs.RowLemmas.{row_read, no_address, no_state}
use Rattle.qf_format.proofs.row.row_of.Goals as goal

pub returns-in_err-primary : goal.returns-in_err-primary
returns-in_err-primary c =
    let p = err_from_is_err_and c.from_residual.result c.from_residual.ensures.1 in
    rw (p.1, p.2) (no_address c.args.bytes.now c.in_err-primary.field-0.0 c.in_err-primary.ensures)

pub returns-in_err-state : goal.returns-in_err-state
returns-in_err-state c =
    let p = err_from_is_err_and c.from_residual-in_err-state.result c.from_residual-in_err-state.ensures.1 in
    rw (p.1, p.2) (no_state c.args.bytes.now c.in_ok-primary.rest.now c.in_ok-primary.address c.in_ok-primary.primary c.in_ok-primary.ensures c.in_err-state.field-0.0 c.in_err-state.ensures)

pub returns : goal.returns
returns c = row_read c.args.bytes.now c.in_ok-primary.rest.now c.in_ok-state.rest.now c.in_ok-primary.address c.in_ok-primary.primary c.in_ok-state.state c.in_ok-primary.ensures c.in_ok-state.ensures
