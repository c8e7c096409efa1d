use Rattle.std.proofs.Common.{true, refl}
use Rattle.addr_tokens.specs.Pieces.{plain}
use Rattle.ruleset_run.proofs.ThroughLemmas.{cut_some, cut_refused}
use Rattle.ruleset_run.proofs.passing.cut.Goals as goal

pub returns-in-Ok : goal.returns-in-Ok
returns-in-Ok c =
    let a = c.args in
    let operators = a.config.now.options.operator_chars in
    cut_some operators a.address.now c.in-Ok.tokens ((c.computed.ensures.tokens (plain operators) true a.address.now c.in-Ok.tokens refl).1 c.in-Ok.ensures.tokens)

pub returns-in-Err : goal.returns-in-Err
returns-in-Err c =
    let a = c.args in
    let operators = a.config.now.options.operator_chars in
    rw c.of_scan.ensures (cut_refused operators a.address.now (λ fault has. (c.computed.ensures.fault (plain operators) true a.address.now fault).1 has) c.in-Err.fault c.in-Err.ensures.fault)
