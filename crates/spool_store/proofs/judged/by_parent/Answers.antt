-- Without a parent, under one of no smaller id, and under one of a smaller.
use Rattle.std.proofs.Common.{arith, refl}
use Rattle.spool_store.specs.Queue.{upward}
use Rattle.spool_store.specs.inner.Finds.{spot_named}
use Rattle.spool_store.proofs.Verdicts.{verdict_alone}
use Rattle.spool_store.proofs.judged.by_parent.Goals as goal

pub under-requires-clause-far : goal.under-requires-clause-far
under-requires-clause-far c = λ k d lt e. c.requires.far k d lt (omega (arith, e, c.if-number.false, c.number.ensures.number, c.number-in-Some.ensures.number))

pub returns-in-None : goal.returns-in-None
returns-in-None c = λ dirs f found judged sober. verdict_alone dirs f (spot_named dirs c.args.named.now) c.args.control.now sober c.in-None.is

pub returns-then-number : goal.returns-then-number
returns-then-number c = λ dirs f found judged sober. upward (spot_named dirs c.args.named.now) c.args.control.now c.in-Some.parent sober.read c.in-Some.is (omega (arith, c.if-number.true, c.number.ensures.number, c.number-in-Some.ensures.number))

pub returns-else-number : goal.returns-else-number
returns-else-number c = λ dirs f found judged sober. c.under.ensures dirs f (spot_named dirs c.args.named.now) c.args.control.now found judged sober c.in-Some.is (omega (arith, c.if-number.false, c.number.ensures.number, c.number-in-Some.ensures.number)) refl
