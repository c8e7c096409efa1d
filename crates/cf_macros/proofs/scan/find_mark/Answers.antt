use Rattle.std.proofs.Common.{◌∙◌, arith, ap}
use Rattle.cf_macros.specs.declared.construct.Kind.TheVariants.{Else, End, Unclosed}
use Rattle.cf_macros.specs.Readings.{second_part, behind_end}
use Rattle.cf_macros.proofs.ReadingLemmas.{mark-step, mark-none, rest-kind, same-end, found-within, behind-bounds}
use Rattle.cf_macros.proofs.scan.find_mark.Goals as goal

pub returns-in-Unclosed : goal.returns-in-Unclosed
returns-in-Unclosed c =
    let e = rest-kind _ _ _ _ c.first_piece-found.result Unclosed c.rest.ensures c.constructs-test.true c.first_piece-found.ensures c.in-Unclosed.is in
    (c.constructs.invariant.same.second ∙ ap second_part e, c.constructs.invariant.same.behind ∙ ap behind_end e)

pub returns-in-Else : goal.returns-in-Else
returns-in-Else c =
    let e = rest-kind _ _ _ _ c.first_piece-found.result Else c.rest.ensures c.constructs-test.true c.first_piece-found.ensures c.in-Else.is in
    let w = found-within _ _ _ _ c.first_piece-found.result c.rest.ensures c.constructs-test.true c.first_piece-found.ensures in
    (c.constructs.invariant.same.second ∙ ap second_part e, c.constructs.invariant.same.behind ∙ ap behind_end e, omega arith, w)

pub returns-in-End : goal.returns-in-End
returns-in-End c =
    let e = rest-kind _ _ _ _ c.first_piece-found.result End c.rest.ensures c.constructs-test.true c.first_piece-found.ensures c.in-End.is in
    let w = found-within _ _ _ _ c.first_piece-found.result c.rest.ensures c.constructs-test.true c.first_piece-found.ensures in
    (c.constructs.invariant.same.second ∙ ap second_part e, c.constructs.invariant.same.behind ∙ ap behind_end e, omega arith, w)

pub returns-in_default-behind : goal.returns-in_default-behind
returns-in_default-behind c =
    let s = mark-none _ _ _ _ c.first_piece-found.result c.rest.ensures c.constructs-test.true c.first_piece-found.ensures c.in_default.not-Else c.in_default.not-End c.in_default-behind.ensures in
    (c.constructs.invariant.same.second ∙ s.second, c.constructs.invariant.same.behind ∙ s.behind)

pub constructs-preserved : goal.constructs-preserved
constructs-preserved c =
    let s = mark-step _ _ _ _ c.in-Some.passed c.first_piece-found.result c.rest.ensures c.constructs-test.true c.first_piece-found.ensures c.in_default.not-Unclosed c.in_default.not-Else c.in_default.not-End c.in-Some.ensures in
    let w = found-within _ _ _ _ c.first_piece-found.result c.rest.ensures c.constructs-test.true c.first_piece-found.ensures in
    let b = behind-bounds _ _ _ _ c.in-Some.passed w c.in-Some.ensures in
    record {
      same = record { second = c.constructs.invariant.same.second ∙ s.second; behind = c.constructs.invariant.same.behind ∙ s.behind };
      begun = omega (arith, b.0);
      in_text = b.1;
    }

pub returns : goal.returns
returns c =
    let s = same-end _ _ _ c.constructs-test.false in
    (c.constructs.invariant.same.second ∙ s.second, c.constructs.invariant.same.behind ∙ s.behind)
