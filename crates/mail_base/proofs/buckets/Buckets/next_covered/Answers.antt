use Rattle.std.proofs.Common.{◌≡◌, List, Option, None, Some, length, subst}
use Rattle.std.specs.Prelude.{IfNone}
use Rattle.mail_base.specs.Buckets.{in_order}
use Rattle.mail_base.specs.declared.rule.Slot.{Slot}
use Rattle.mail_base.specs.inner.Covering.{AreUncovered, IsFirstCovered}
use Rattle.mail_base.proofs.BucketLemmas.{covered_rule, uncovered_rule}
use Rattle.mail_base.proofs.buckets.Buckets.next_covered.Goals as goal

pub returns-clause-some : goal.returns-clause-some
returns-clause-some c =
    covered_rule (in_order c.self.inside.anchored.entries c.self.inside.free c.self.inside.slots) c.args.self.now c.self.inside.anchored.entries c.self.inside.free c.self.inside.slots c.self.invariant c.self.view_is c.args.mask c.args.from c.in_ok-number.number
    (subst (λ (slots : List Slot). IsFirstCovered c.args.mask slots c.args.from c.in_ok-number.number) c.items.ensures c.in_ok-number.ensures.some)

is_none : {A P : Type 0} (o : Option A) → o ≡ None → P → IfNone o P
is_none None e p = p
is_none (Some x) e p = absurd (cc e)

pub returns-in_err-number-clause-none : goal.returns-in_err-number-clause-none
returns-in_err-number-clause-none c =
    is_none c.from_residual.result c.from_residual.ensures
    (uncovered_rule (in_order c.self.inside.anchored.entries c.self.inside.free c.self.inside.slots) c.args.self.now c.self.inside.anchored.entries c.self.inside.free c.self.inside.slots c.self.invariant c.self.view_is c.args.mask c.args.from
    (subst (λ (slots : List Slot). AreUncovered c.args.mask slots c.args.from (length slots)) c.items.ensures c.in_err-number.ensures.none))
