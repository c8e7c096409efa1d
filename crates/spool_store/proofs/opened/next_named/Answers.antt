-- One file after another.
use Rattle.std.proofs.Common.{◌<◌, arith, subst, List, Contains}
use Rattle.std.proofs.lemmas.List.{take_all}
use Rattle.spool_store.specs.declared.named.Named.{Named}
use Rattle.spool_store.proofs.TellingLemmas.{named_next, named_least, which_number}
use Rattle.spool_store.proofs.opened.next_named.Goals as goal

pub loop-x-preserved : goal.loop-x-preserved
loop-x-preserved c = record {
  above = named_next c.args.named.now c.loop-x.x-index c.x-item.result c.loop-x.next c.later-next.result (omega arith) c.x-item.is c.later-next.ensures.kept (omega (arith, c.later-next.ensures.above, c.number.ensures.number)) c.loop-x.invariant.above;
  least = named_least c.args.named.now c.loop-x.x-index c.x-item.result c.loop-x.next c.later-next.result (omega arith) c.x-item.is (which_number c.loop-x.next c.later-next.result c.number.result c.x-item.result.id c.number.ensures.number c.later-next.ensures.least) c.loop-x.invariant.least;
}

pub returns-clause-above : goal.returns-clause-above
returns-clause-above c = subst (λ (q : List Named). (y : Named) → Contains q y → y.id < c.loop-x.next) (take_all c.loop-x.x-index c.args.named.now (omega (arith, c.loop-x-test.false))) c.loop-x.invariant.above
