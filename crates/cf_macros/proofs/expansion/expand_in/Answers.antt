use Rattle.std.proofs.Common.{arith}
use Rattle.cf_macros.proofs.RunLemmas.{begins, is-new}
use Rattle.cf_macros.proofs.expansion.expand_in.Goals as goal

pub references-init : goal.references-init
references-init c = record {
  same = begins c.args.scope c.args.text.now c.args.macros.now c.new.result.items c.new-3.result c.new-2.result c.new.ensures.items c.new-3.ensures (is-new _ _ _ c.new-2.result c.bytes.ensures c.new-2.ensures);
  reads = c.new-2.ensures.reads;
  few = omega arith;
}
