-- One control file after another.
use Rattle.std.proofs.Common.{arith, subst, List, take}
use Rattle.std.proofs.lemmas.List.{take_all}
use Rattle.spool_store.specs.declared.named.Found.{Found}
use Rattle.spool_store.specs.inner.Telling.{IsPast}
use Rattle.spool_store.proofs.TellingLemmas.{past_none, past_more, past_next}
use Rattle.spool_store.proofs.opened.past_parents.Goals as goal

pub loop-x-init : goal.loop-x-init
loop-x-init c = record { past = past_none c.args.next }

pub loop-x-preserved : goal.loop-x-preserved
loop-x-preserved c = record { past = past_next c.args.found.now c.loop-x.x-index c.x-item.result c.args.next c.past_parent-past.result (omega arith) c.x-item.is (past_more (take c.loop-x.x-index c.args.found.now) c.x-item.result c.args.next c.loop-x.past c.past_parent-past.result c.past_parent-past.ensures.kept c.past_parent-past.ensures.above c.past_parent-past.ensures.least c.loop-x.invariant.past) }

pub returns : goal.returns
returns c = subst (λ (q : List Found). IsPast q c.args.next c.loop-x.past) (take_all c.loop-x.x-index c.args.found.now (omega (arith, c.loop-x-test.false))) c.loop-x.invariant.past
