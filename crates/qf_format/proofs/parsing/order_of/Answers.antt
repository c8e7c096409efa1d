use Rattle.std.specs.Int.{w64, w128}
use Rattle.std.proofs.lemmas.Int.{to_z-of_z}
use Rattle.std.proofs.lemmas.Result.{err_from_is_err_and}
use Rattle.qf_format.proofs.OrderLemmas.{read_all, stop-created, stop-last_try, stop-tries, stop-priority, stop-class}
use Rattle.qf_format.proofs.parsing.order_of.Goals as goal

pub returns-in_err-created : goal.returns-in_err-created
returns-in_err-created c =
    let p = err_from_is_err_and c.from_residual.result c.from_residual.ensures.1 in
    rw (p.1, p.2) (stop-created c.args.bytes.now c.in_err-created.field-0.0 c.in_err-created.ensures)

pub returns-in_err-last_try : goal.returns-in_err-last_try
returns-in_err-last_try c =
    let p = err_from_is_err_and c.from_residual-in_err-last_try.result c.from_residual-in_err-last_try.ensures.1 in
    rw (p.1, p.2) (stop-last_try c.args.bytes.now c.in_ok-created.rest.now c.in_ok-created.created c.in_ok-created.ensures c.in_err-last_try.field-0.0 c.in_err-last_try.ensures)

pub returns-in_err-tries : goal.returns-in_err-tries
returns-in_err-tries c =
    let p = err_from_is_err_and c.from_residual-in_err-tries.result c.from_residual-in_err-tries.ensures.1 in
    rw (p.1, p.2) (stop-tries c.args.bytes.now c.in_ok-created.rest.now c.in_ok-last_try.rest.now c.in_ok-created.created c.in_ok-last_try.last_try c.in_ok-created.ensures c.in_ok-last_try.ensures c.in_err-tries.field-0.0 c.in_err-tries.ensures)

pub returns-in_err-priority : goal.returns-in_err-priority
returns-in_err-priority c =
    let p = err_from_is_err_and c.from_residual-in_err-priority.result c.from_residual-in_err-priority.ensures.1 in
    rw (p.1, p.2) (stop-priority c.args.bytes.now c.in_ok-created.rest.now c.in_ok-last_try.rest.now c.in_ok-tries.rest.now c.in_ok-created.created c.in_ok-last_try.last_try c.in_ok-tries.tries c.in_ok-created.ensures c.in_ok-last_try.ensures c.in_ok-tries.ensures c.in_err-priority.field-0.0 c.in_err-priority.ensures)

pub returns-in_err-class : goal.returns-in_err-class
returns-in_err-class c =
    let p = err_from_is_err_and c.from_residual-in_err-class.result c.from_residual-in_err-class.ensures.1 in
    rw (p.1, p.2) (stop-class c.args.bytes.now c.in_ok-created.rest.now c.in_ok-last_try.rest.now c.in_ok-tries.rest.now c.in_ok-priority.rest.now c.in_ok-created.created c.in_ok-last_try.last_try c.in_ok-tries.tries c.in_ok-priority.priority c.in_ok-created.ensures c.in_ok-last_try.ensures c.in_ok-tries.ensures c.in_ok-priority.ensures c.in_err-class.field-0.0 c.in_err-class.ensures)

pub returns : goal.returns
returns c =
    rw (to_z-of_z w128 c.in_ok-priority.priority c.in_ok-priority.ensures.is_formed, to_z-of_z w64 c.in_ok-class.class c.in_ok-class.ensures.is_formed) (read_all c.args.bytes.now c.in_ok-created.rest.now c.in_ok-last_try.rest.now c.in_ok-tries.rest.now c.in_ok-priority.rest.now c.in_ok-class.rest.now c.in_ok-created.created c.in_ok-last_try.last_try c.in_ok-tries.tries c.in_ok-priority.priority c.in_ok-class.class c.in_ok-created.ensures c.in_ok-last_try.ensures c.in_ok-tries.ensures c.in_ok-priority.ensures c.in_ok-class.ensures)
