use Rattle.std.proofs.Common.{◌∙◌, sym, arith}
use Rattle.map_tables.proofs.DepthLemmas.{by_depth}
use Rattle.map_tables.proofs.ScanLemmas.{opened, closed, passed, lone, at_end}
use Rattle.map_tables.proofs.quotes.is_balanced.Goals as goal
use Rattle.map_tables.proofs.quotes.is_balanced.Goals.{then-byte-opens, else-byte-opens+then-byte-closes+else-depth-eq0, else-byte-opens+else-byte-closes}

pub loop-byte-init : goal.loop-byte-init
loop-byte-init c = record {
  rest = by_depth c.args.opens c.args.closes c.requires c.args.plain.now;
  few = omega arith;
}

pub returns-then-depth-eq0 : goal.returns-then-depth-eq0
returns-then-depth-eq0 c =
    sym (lone c.args.opens c.args.closes c.args.plain.now c.loop-byte.byte-index c.loop-byte-test.true c.loop-byte.depth 0 c.if-byte-opens.false c.if-byte-closes.true c.if-depth-eq0.true)
    ∙ c.loop-byte.invariant.rest

pub loop-byte-preserved : goal.loop-byte-preserved
loop-byte-preserved c =
    let opens = c.args.opens in
    let closes = c.args.closes in
    let text = c.args.plain.now in
    let i = c.loop-byte.byte-index in
    let depth = c.loop-byte.depth in
    elim c.if-byte-opens.branch [
      | then-byte-opens w ↦ record {
        rest = opened opens closes text i c.loop-byte-test.true depth _ w.if-byte-opens.true w.depth-is ∙ c.loop-byte.invariant.rest;
        few = omega (arith, w.depth-is, c.loop-byte.invariant.few);
      }
      | else-byte-opens+then-byte-closes+else-depth-eq0 w ↦ record {
        rest = closed opens closes text i c.loop-byte-test.true depth _ w.if-byte-opens.false w.if-byte-closes.true w.if-depth-eq0.false w.depth-is ∙ c.loop-byte.invariant.rest;
        few = omega (arith, w.depth-is, c.loop-byte.invariant.few);
      }
      | else-byte-opens+else-byte-closes w ↦ record {
        rest = passed opens closes text i c.loop-byte-test.true depth _ w.if-byte-opens.false w.if-byte-closes.false w.depth-is ∙ c.loop-byte.invariant.rest;
        few = omega (arith, w.depth-is, c.loop-byte.invariant.few);
      }
    ]

pub returns : goal.returns
returns c = sym (at_end c.args.opens c.args.closes c.args.plain.now c.loop-byte.byte-index c.loop-byte.depth c.loop-byte-test.false) ∙ c.loop-byte.invariant.rest
