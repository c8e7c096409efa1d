use Rattle.std.proofs.lemmas.Result.{err_from_is_err_and}
use Rattle.std.proofs.lemmas.List.{take_rest}
use Rattle.addr_tokens.specs.Pieces.{plain}
use Rattle.addr_tokens.proofs.SpanLemmas.{end_fails, end_spans, spans_of_answer, uncut_explained}
use Rattle.addr_tokens.proofs.piece.pieces.Goals as goal

pub returns-in_err-place-clause-fault : goal.returns-in_err-place-clause-fault
returns-in_err-place-clause-fault c =
    let p = err_from_is_err_and c.from_residual.result c.from_residual.ensures.1 in
    rw (p.1, p.2) (uncut_explained (plain c.args.operators.now) c.args.angles c.args.text.now _
    (c.in_err-place.ensures.goes (plain c.args.operators.now) c.args.angles c.args.text.now c.pieces.invariant.table (take_rest c.args.text.now c.pieces.place) c.pieces-test.true c.pieces.invariant.so))

pub returns-in_err-end-clause-fault : goal.returns-in_err-end-clause-fault
returns-in_err-end-clause-fault c =
    let p = err_from_is_err_and c.from_residual-in_err-end.result c.from_residual-in_err-end.ensures.1 in
    rw (p.1, p.2) (uncut_explained (plain c.args.operators.now) c.args.angles c.args.text.now _
    (λ other. end_fails (plain c.args.operators.now) c.args.angles c.args.text.now _ c.pieces.place _ _ c.pieces.invariant.so c.pieces-test.false _ c.in_err-end.ensures.fault))

pub returns-clause-spans : goal.returns-clause-spans
returns-clause-spans c =
    spans_of_answer (plain c.args.operators.now) c.args.angles c.args.text.now c.pieces.spans
    (end_spans (plain c.args.operators.now) c.args.angles c.args.text.now _ c.pieces.place _ _ c.pieces.invariant.so c.pieces-test.false c.in_ok-end.ensures.none)
