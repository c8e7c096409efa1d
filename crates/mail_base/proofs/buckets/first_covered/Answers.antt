use Rattle.std.proofs.Common.{◌∙◌, sym, arith}
use Rattle.mail_base.proofs.BucketLemmas.{first_at, none_at, one_more}
use Rattle.mail_base.proofs.buckets.first_covered.Goals as goal

pub slots-init : goal.slots-init
slots-init c = record { above = omega arith; none = λ k slot le lt is. absurd (omega (arith, le, lt)) }

pub returns-then-covers-clause-some : goal.returns-then-covers-clause-some
returns-then-covers-clause-some c =
    first_at c.args.mask c.args.slots.now c.args.from c.slots.place _ c.slots-test.true c.slots.invariant.above (sym c.covers.ensures ∙ c.if-covers.true) c.slots.invariant.none

pub slots-preserved : goal.slots-preserved
slots-preserved c = let above = c.slots.invariant.above in record {
  above = omega (arith, above);
  none = one_more c.args.mask c.args.slots.now c.args.from c.slots.place _ c.slots-test.true (sym c.covers.ensures ∙ c.if-covers.false) c.slots.invariant.none;
}

pub returns-clause-none : goal.returns-clause-none
returns-clause-none c = none_at c.args.mask c.args.slots.now c.args.from c.slots.place c.slots-test.false c.slots.invariant.none
