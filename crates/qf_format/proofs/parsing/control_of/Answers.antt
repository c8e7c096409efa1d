use Rattle.std.specs.Int.{w64, w128}
use Rattle.std.proofs.lemmas.Int.{to_z-of_z}
use Rattle.std.proofs.Common.{refl}
use Rattle.std.proofs.lemmas.Bool.{false≢true}
use Rattle.qf_format.proofs.EndLemmas.{parse_stops, parse_whole, parse_past}
use Rattle.std.proofs.lemmas.Result.{err_from_is_err_and}
use Rattle.qf_format.proofs.ControlLemmas.{read_all, stop-place, stop-order, stop-envelope, stop-kept, stop-rows, stop-headers}
use Rattle.qf_format.proofs.parsing.control_of.Goals as goal

pub returns-in_err-place : goal.returns-in_err-place
returns-in_err-place c =
    let p = err_from_is_err_and c.from_residual.result c.from_residual.ensures.1 in
    rw (p.1, p.2) (parse_stops c.args.bytes.now c.in_err-place.field-0.0 (stop-place c.args.bytes.now c.in_err-place.field-0.0 c.in_err-place.ensures))

pub returns-in_err-order : goal.returns-in_err-order
returns-in_err-order c =
    let p = err_from_is_err_and c.from_residual-in_err-order.result c.from_residual-in_err-order.ensures.1 in
    rw (p.1, p.2) (parse_stops c.args.bytes.now c.in_err-order.field-0.0 (stop-order c.args.bytes.now c.in_ok-place.rest.now c.in_ok-place.place c.in_ok-place.ensures c.in_err-order.field-0.0 c.in_err-order.ensures))

pub returns-in_err-envelope : goal.returns-in_err-envelope
returns-in_err-envelope c =
    let p = err_from_is_err_and c.from_residual-in_err-envelope.result c.from_residual-in_err-envelope.ensures.1 in
    rw (p.1, p.2) (parse_stops c.args.bytes.now c.in_err-envelope.field-0.0 (stop-envelope c.args.bytes.now c.in_ok-place.rest.now c.in_ok-order.rest.now c.in_ok-place.place c.in_ok-order.order c.in_ok-place.ensures c.in_ok-order.ensures c.in_err-envelope.field-0.0 c.in_err-envelope.ensures))

pub returns-in_err-kept : goal.returns-in_err-kept
returns-in_err-kept c =
    let p = err_from_is_err_and c.from_residual-in_err-kept.result c.from_residual-in_err-kept.ensures.1 in
    rw (p.1, p.2) (parse_stops c.args.bytes.now c.in_err-kept.field-0.0 (stop-kept c.args.bytes.now c.in_ok-place.rest.now c.in_ok-order.rest.now c.in_ok-envelope.rest.now c.in_ok-place.place c.in_ok-order.order c.in_ok-envelope.envelope c.in_ok-place.ensures c.in_ok-order.ensures c.in_ok-envelope.ensures c.in_err-kept.field-0.0 c.in_err-kept.ensures))

pub returns-in_err-rows : goal.returns-in_err-rows
returns-in_err-rows c =
    let p = err_from_is_err_and c.from_residual-in_err-rows.result c.from_residual-in_err-rows.ensures.1 in
    rw (p.1, p.2) (parse_stops c.args.bytes.now c.in_err-rows.field-0.0 (stop-rows c.args.bytes.now c.in_ok-place.rest.now c.in_ok-order.rest.now c.in_ok-envelope.rest.now c.in_ok-kept.rest.now c.in_ok-place.place c.in_ok-order.order c.in_ok-envelope.envelope c.in_ok-kept.kept c.in_ok-place.ensures c.in_ok-order.ensures c.in_ok-envelope.ensures c.in_ok-kept.ensures c.in_err-rows.field-0.0 c.in_err-rows.ensures))

pub returns-in_err-headers : goal.returns-in_err-headers
returns-in_err-headers c =
    let p = err_from_is_err_and c.from_residual-in_err-headers.result c.from_residual-in_err-headers.ensures.1 in
    rw (p.1, p.2) (parse_stops c.args.bytes.now c.in_err-headers.field-0.0 (stop-headers c.args.bytes.now c.in_ok-place.rest.now c.in_ok-order.rest.now c.in_ok-envelope.rest.now c.in_ok-kept.rest.now c.in_ok-rows.rest.now c.in_ok-place.place c.in_ok-order.order c.in_ok-envelope.envelope c.in_ok-kept.kept c.in_ok-rows.rows c.in_ok-place.ensures c.in_ok-order.ensures c.in_ok-envelope.ensures c.in_ok-kept.ensures c.in_ok-rows.ensures c.in_err-headers.field-0.0 c.in_err-headers.ensures))

pub returns-then-not-is_end : goal.returns-then-not-is_end
returns-then-not-is_end c = parse_past c.args.bytes.now c.in_ok-headers.rest.now (read_all c.args.bytes.now c.in_ok-place.rest.now c.in_ok-order.rest.now c.in_ok-envelope.rest.now c.in_ok-kept.rest.now c.in_ok-rows.rest.now c.in_ok-headers.rest.now c.in_ok-place.place c.in_ok-order.order c.in_ok-envelope.envelope c.in_ok-kept.kept c.in_ok-rows.rows c.in_ok-headers.headers c.in_ok-place.ensures c.in_ok-order.ensures c.in_ok-envelope.ensures c.in_ok-kept.ensures c.in_ok-rows.ensures c.in_ok-headers.ensures) (λ e. false≢true (c.if-not-is_end.ensures.1 e))

pub returns : goal.returns
returns c =
    rw (to_z-of_z w128 c.in_ok-order.order.priority c.in_ok-order.ensures.is_formed.priority_range, to_z-of_z w64 c.in_ok-order.order.class c.in_ok-order.ensures.is_formed.class_range)
    (parse_whole c.args.bytes.now c.in_ok-headers.rest.now (read_all c.args.bytes.now c.in_ok-place.rest.now c.in_ok-order.rest.now c.in_ok-envelope.rest.now c.in_ok-kept.rest.now c.in_ok-rows.rest.now c.in_ok-headers.rest.now c.in_ok-place.place c.in_ok-order.order c.in_ok-envelope.envelope c.in_ok-kept.kept c.in_ok-rows.rows c.in_ok-headers.headers c.in_ok-place.ensures c.in_ok-order.ensures c.in_ok-envelope.ensures c.in_ok-kept.ensures c.in_ok-rows.ensures c.in_ok-headers.ensures) (c.if-not-is_end.ensures.0 refl))
