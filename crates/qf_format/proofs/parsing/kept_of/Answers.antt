use Rattle.std.proofs.lemmas.Result.{err_from_is_err_and}
use Rattle.qf_format.proofs.KeptLemmas.{read_all, stop-protocol, stop-helo, stop-client}
use Rattle.qf_format.proofs.parsing.kept_of.Goals as goal

pub returns-in_err-protocol : goal.returns-in_err-protocol
returns-in_err-protocol c =
    let p = err_from_is_err_and c.from_residual.result c.from_residual.ensures.1 in
    rw (p.1, p.2) (stop-protocol c.args.bytes.now c.in_err-protocol.field-0.0 c.in_err-protocol.ensures)

pub returns-in_err-helo : goal.returns-in_err-helo
returns-in_err-helo c =
    let p = err_from_is_err_and c.from_residual-in_err-helo.result c.from_residual-in_err-helo.ensures.1 in
    rw (p.1, p.2) (stop-helo c.args.bytes.now c.in_ok-protocol.rest.now c.in_ok-protocol.protocol c.in_ok-protocol.ensures c.in_err-helo.field-0.0 c.in_err-helo.ensures)

pub returns-in_err-client : goal.returns-in_err-client
returns-in_err-client c =
    let p = err_from_is_err_and c.from_residual-in_err-client.result c.from_residual-in_err-client.ensures.1 in
    rw (p.1, p.2) (stop-client c.args.bytes.now c.in_ok-protocol.rest.now c.in_ok-helo.rest.now c.in_ok-protocol.protocol c.in_ok-helo.helo c.in_ok-protocol.ensures c.in_ok-helo.ensures c.in_err-client.field-0.0 c.in_err-client.ensures)

pub returns : goal.returns
returns c = read_all c.args.bytes.now c.in_ok-protocol.rest.now c.in_ok-helo.rest.now c.in_ok-client.rest.now c.in_ok-protocol.protocol c.in_ok-helo.helo c.in_ok-client.client c.in_ok-protocol.ensures c.in_ok-helo.ensures c.in_ok-client.ensures
