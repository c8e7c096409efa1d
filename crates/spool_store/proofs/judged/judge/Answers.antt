-- One control file after another.
use Rattle.std.proofs.Common.{◌<◌, ℕ, List, ap, subst, arith, length, sym, take}
use Rattle.spool_store.specs.declared.verdict.Verdict.{Verdict}
use Rattle.spool_store.specs.inner.Judging.{AreJudged}
use Rattle.spool_store.proofs.Judgements.{judged_more, stands_before, found_in, one_longer}
use Rattle.spool_store.proofs.judged.judge.Goals as goal

pub verdict_on-verdict-requires-clause-own : goal.verdict_on-verdict-requires-clause-own
verdict_on-verdict-requires-clause-own c = c.requires.indexed.within c.x-item.result (found_in c.args.found.now c.loop-x.x-index c.x-item.result (omega arith) c.x-item.is)

pub verdict_on-verdict-requires-clause-far : goal.verdict_on-verdict-requires-clause-far
verdict_on-verdict-requires-clause-far c = λ k d lt less. omega (arith, ap (λ (q : List Verdict). length q) c.items.ensures, c.loop-x.invariant.long, stands_before c.args.found.now c.loop-x.x-index k c.x-item.result d c.requires.indexed.found_order (omega arith) lt c.x-item.is less)

pub loop-x-preserved : goal.loop-x-preserved
loop-x-preserved c =
    let lt : c.loop-x.x-index < length c.args.found.now = omega arith in
    record {
      long = omega (arith, one_longer c.loop-x.verdicts c.push.new.self c.verdict_on-verdict.result c.in_ok-push.ensures.ok, c.loop-x.invariant.long);
      judged = λ f named found.
          let so_far = c.loop-x.invariant.judged f named found in
          judged_more c.args.dirs.now f c.args.found.now c.loop-x.verdicts c.push.new.self c.loop-x.x-index c.x-item.result c.verdict_on-verdict.result lt c.x-item.is c.in_ok-push.ensures.ok so_far
          (c.verdict_on-verdict.ensures f named found (subst (λ (q : List Verdict). AreJudged c.args.dirs.now f (take (length q) c.args.found.now) q) (sym c.items.ensures) (subst (λ (n : ℕ). AreJudged c.args.dirs.now f (take n c.args.found.now) c.loop-x.verdicts) (sym c.loop-x.invariant.long) so_far)) (found_in c.args.found.now c.loop-x.x-index c.x-item.result lt c.x-item.is));
    }
