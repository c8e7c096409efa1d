use Rattle.std.proofs.Common.{arith}
use Rattle.ruleset_run.proofs.Skipping.{ahead_by_anchor, ahead_later, none_later, passed_more, uncovered_here}
use Rattle.ruleset_run.proofs.looking.next_by_anchor.Goals as goal

pub rules-preserved : goal.rules-preserved
rules-preserved c =
    let a = c.args in
    let i = c.rules.invariant in
    let next = ahead_by_anchor a.set.now.rules c.rules.at a.tokens.now c.in-Some.number c.in-Some.rule.now c.in-Some.ensures.some in
    let ahead = ahead_later a.set.now.rules a.from c.rules.at a.tokens.now c.in-Some.number c.in-Some.rule.now i.above i.passed next in
    record {
      above = omega (arith, ahead.above);
      passed = passed_more a.set.now.rules a.from a.tokens.now c.in-Some.number c.in-Some.rule.now ahead
          (uncovered_here a.set.now.rules a.mask a.tokens.now c.in-Some.number c.in-Some.rule.now c.is_covered.result c.requires ahead.is c.is_covered.ensures c.if-is_covered.false);
    }

pub returns-then-is_covered-clause-some : goal.returns-then-is_covered-clause-some
returns-then-is_covered-clause-some c =
    let a = c.args in
    let i = c.rules.invariant in
    let next = ahead_by_anchor a.set.now.rules c.rules.at a.tokens.now c.in-Some.number c.in-Some.rule.now c.in-Some.ensures.some in
    ahead_later a.set.now.rules a.from c.rules.at a.tokens.now c.in-Some.number c.in-Some.rule.now i.above i.passed next

pub returns-clause-none : goal.returns-clause-none
returns-clause-none c =
    let a = c.args in
    none_later a.set.now.rules a.from c.rules.at a.tokens.now c.rules.invariant.passed c.in_default.ensures.none
