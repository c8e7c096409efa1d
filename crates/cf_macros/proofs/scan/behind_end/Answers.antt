use Rattle.std.proofs.Common.{◌∙◌, ◌+◌, length, length-drop, arith, sym, ap}
use Rattle.cf_macros.specs.inner.Insides.{past, rest_at}
use Rattle.cf_macros.proofs.ReadingLemmas.{scan-step, scan-unclosed, scan-end, few-ends}
use Rattle.cf_macros.proofs.scan.behind_end.Goals as goal

pub returns-in-Unclosed : goal.returns-in-Unclosed
returns-in-Unclosed c =
    c.constructs.invariant.same ∙ scan-unclosed _ _ _ _ _ c.first_piece-found.result c.rest.ensures c.constructs-test.true c.first_piece-found.ensures c.in-Unclosed.is c.constructs.invariant.some

pub returns-then-ends-eq0 : goal.returns-then-ends-eq0
returns-then-ends-eq0 c =
    let passed = scan-step c.args.scope c.args.text.now c.rest.result.now c.constructs.place c.constructs.ends c.first_piece-found.result c.rest.ensures c.constructs-test.true c.first_piece-found.ensures c.in_default.not-Unclosed c.constructs.invariant.some in (
      c.constructs.invariant.same ∙ passed ∙ ap (λ e. past e (rest_at c.args.scope c.args.text.now (c.constructs.place + c.first_piece-found.result.width))) (sym c.ends_behind-ends.ensures ∙ c.if-ends-eq0.true),
      omega arith,
      omega (arith, c.rest.ensures, ap length c.rest.ensures, length-drop c.constructs.place c.args.text.now, c.first_piece-found.ensures.within),
    )

pub constructs-preserved : goal.constructs-preserved
constructs-preserved c =
    let passed = scan-step c.args.scope c.args.text.now c.rest.result.now c.constructs.place c.constructs.ends c.first_piece-found.result c.rest.ensures c.constructs-test.true c.first_piece-found.ensures c.in_default.not-Unclosed c.constructs.invariant.some in
    record {
      same = c.constructs.invariant.same ∙ passed ∙ ap (λ e. past e (rest_at c.args.scope c.args.text.now (c.constructs.place + c.first_piece-found.result.width))) (sym c.ends_behind-ends.ensures);
      begun = omega arith;
      in_text = omega (arith, ap length c.rest.ensures, length-drop c.constructs.place c.args.text.now, c.first_piece-found.ensures.within);
      some = omega arith;
      few = omega (arith, few-ends c.first_piece-found.result.kind c.constructs.ends, c.ends_behind-ends.ensures, c.first_piece-found.ensures.moves);
    }

pub returns : goal.returns
returns c = c.constructs.invariant.same ∙ scan-end _ _ _ _ c.constructs-test.false c.constructs.invariant.some
