use Rattle.std.proofs.lemmas.Result.{err_from_is_err_and}
use Rattle.qf_format.proofs.EnvelopeLemmas.{read_all, stop-marks, stop-eight, stop-sender}
use Rattle.qf_format.proofs.parsing.envelope_of.Goals as goal

pub returns-in_err-marks : goal.returns-in_err-marks
returns-in_err-marks c =
    let p = err_from_is_err_and c.from_residual.result c.from_residual.ensures.1 in
    rw (p.1, p.2) (stop-marks c.args.bytes.now c.in_err-marks.field-0.0 c.in_err-marks.ensures)

pub returns-in_err-eight : goal.returns-in_err-eight
returns-in_err-eight c =
    let p = err_from_is_err_and c.from_residual-in_err-eight.result c.from_residual-in_err-eight.ensures.1 in
    rw (p.1, p.2) (stop-eight c.args.bytes.now c.in_ok-marks.rest.now c.in_ok-marks.marks c.in_ok-marks.ensures c.in_err-eight.field-0.0 c.in_err-eight.ensures)

pub returns-in_err-sender : goal.returns-in_err-sender
returns-in_err-sender c =
    let p = err_from_is_err_and c.from_residual-in_err-sender.result c.from_residual-in_err-sender.ensures.1 in
    rw (p.1, p.2) (stop-sender c.args.bytes.now c.in_ok-marks.rest.now c.in_ok-eight.rest.now c.in_ok-marks.marks c.in_ok-eight.eight c.in_ok-marks.ensures c.in_ok-eight.ensures c.in_err-sender.field-0.0 c.in_err-sender.ensures)

pub returns : goal.returns
returns c = read_all c.args.bytes.now c.in_ok-marks.rest.now c.in_ok-eight.rest.now c.in_ok-sender.rest.now c.in_ok-marks.marks c.in_ok-eight.eight c.in_ok-sender.sender c.in_ok-marks.ensures c.in_ok-eight.ensures c.in_ok-sender.ensures
