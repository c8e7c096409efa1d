use Rattle.std.proofs.lemmas.Result.{err_from_is_err_and}
use Rattle.qf_format.proofs.PlaceLemmas.{read_all, stop-revision, stop-parent, stop-group}
use Rattle.qf_format.proofs.parsing.place_of.Goals as goal

pub returns-in_err-revision : goal.returns-in_err-revision
returns-in_err-revision c =
    let p = err_from_is_err_and c.from_residual.result c.from_residual.ensures.1 in
    rw (p.1, p.2) (stop-revision c.args.bytes.now c.in_err-revision.field-0.0 c.in_err-revision.ensures)

pub returns-in-Err : goal.returns-in-Err
returns-in-Err c = stop-parent c.args.bytes.now c.in_ok-revision.rest.now c.in_ok-revision.revision c.in_ok-revision.ensures c.in-Err.stop c.in-Err.ensures

pub returns-in_err-group : goal.returns-in_err-group
returns-in_err-group c =
    let p = err_from_is_err_and c.from_residual-in_err-group.result c.from_residual-in_err-group.ensures.1 in
    rw (p.1, p.2) (stop-group c.args.bytes.now c.in_ok-revision.rest.now c.in-Ok.read.1.now c.in_ok-revision.revision c.in-Ok.read.0 c.in_ok-revision.ensures c.in-Ok.ensures c.in_err-group.field-0.0 c.in_err-group.ensures)

pub returns : goal.returns
returns c = read_all c.args.bytes.now c.in_ok-revision.rest.now c.in-Ok.read.1.now c.in_ok-group.rest.now c.in_ok-revision.revision c.in-Ok.read.0 c.in_ok-group.group c.in_ok-revision.ensures c.in-Ok.ensures c.in_ok-group.ensures
