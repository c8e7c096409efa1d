use Rattle.std.proofs.Common.{drop, map, reverse, arith}
use Rattle.addr_tokens.specs.Pieces.{alphabet_of}
use Rattle.std.proofs.lemmas.List.{take_rest}
use Rattle.std.proofs.lemmas.Result.{err_from_is_err_and, IfOk-weaker, MatchResult-weaker}
use Rattle.addr_tokens.specs.Reader.{gathered, outcome_on}
use Rattle.addr_tokens.proofs.ScanLemmas.{all_fails, all_lexemes}
use Rattle.addr_tokens.proofs.scan.scan.Goals as goal

pub pieces-init : goal.pieces-init
pieces-init g c = record {
  table = c.of-table.ensures;
  so = record {
    within = omega arith;
    outcome = λ i. gathered (c.new-gathering.ensures.short i) (map g.T.Given.seen (c.new-gathering.ensures.given i)) (outcome_on (alphabet_of c.args.operators.now c.args.dollars) (c.new-open.ensures.checked i) 0 (reverse (c.new-open.ensures.places i)) (drop 0 c.args.text.now));
  };
}

pub returns-in_err-place-clause-fault : goal.returns-in_err-place-clause-fault
returns-in_err-place-clause-fault g c =
    let p = err_from_is_err_and c.from_residual.result c.from_residual.ensures.1 in
    rw (p.1, p.2) (c.in_err-place.ensures.goes (alphabet_of c.args.operators.now c.args.dollars) c.args.angles c.args.text.now c.pieces.invariant.table c.requires (take_rest c.args.text.now c.pieces.place) c.pieces-test.true c.pieces.invariant.so)

pub pieces-preserved : goal.pieces-preserved
pieces-preserved g c = record {
  table = c.pieces.invariant.table;
  so = c.in_ok-place.ensures.goes (alphabet_of c.args.operators.now c.args.dollars) c.args.angles c.args.text.now c.pieces.invariant.table c.requires (take_rest c.args.text.now c.pieces.place) c.pieces-test.true c.pieces.invariant.so;
}

pub returns-clause-given : goal.returns-clause-given
returns-clause-given g c =
    IfOk-weaker c.answer_of.result _ _
    (λ given gives. all_lexemes (alphabet_of c.args.operators.now c.args.dollars) c.args.angles c.args.text.now _ c.pieces.place _ _ _ c.pieces.invariant.so c.pieces-test.false (map g.T.Given.seen given) gives) c.answer_of.ensures.ok

pub returns-clause-fault : goal.returns-clause-fault
returns-clause-fault g c =
    MatchResult-weaker c.answer_of.result c.answer_of.ensures.fault (λ given so. so)
    (λ fault gives. all_fails (alphabet_of c.args.operators.now c.args.dollars) c.args.angles c.args.text.now _ c.pieces.place _ _ _ c.pieces.invariant.so c.pieces-test.false fault gives)
