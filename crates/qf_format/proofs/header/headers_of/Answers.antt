use Rattle.std.proofs.Common.{sym, ◌∙◌}
use Rattle.std.proofs.lemmas.Result.{err_from_is_err_and}
use Rattle.qf_format.proofs.HeaderLemmas.{no_headers_yet, header_more, headers_read, header_stops, header_shorter}
use Rattle.qf_format.proofs.header.headers_of.Goals as goal

pub headers-init : goal.headers-init
headers-init c = rw c.new-headers.ensures (no_headers_yet c.args.bytes.now)

pub returns-in_err-header : goal.returns-in_err-header
returns-in_err-header c =
    let p = err_from_is_err_and c.from_residual.result c.from_residual.ensures.1 in
    rw (p.1, p.2) (header_stops c.args.bytes.now c.headers.headers c.headers.rest.now c.headers.invariant (sym c.first_byte.ensures ∙ c.headers-test.true) c.in_err-header.field-0.0 c.in_err-header.ensures)

pub headers-preserved : goal.headers-preserved
headers-preserved c = rw c.in_ok-push.ensures.ok (header_more c.args.bytes.now c.headers.headers c.headers.rest.now c.in_ok-header.header c.in_ok-header.after.now c.headers.invariant c.in_ok-header.ensures)

pub headers-smaller : goal.headers-smaller
headers-smaller c = header_shorter c.headers.rest.now c.in_ok-header.header c.in_ok-header.after.now c.in_ok-header.ensures

pub returns : goal.returns
returns c = headers_read c.args.bytes.now c.headers.headers c.headers.rest.now c.headers.invariant (λ e. c.headers-test.false (c.first_byte.ensures ∙ e))
