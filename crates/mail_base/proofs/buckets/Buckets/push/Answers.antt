use Rattle.std.proofs.Common.{◌∷◌, ◌++◌, [], List, refl, sym, ◌∙◌, ap}
use Rattle.mail_base.specs.declared.rule.Rule.{Rule}
use Rattle.mail_base.proofs.BucketLemmas.{bucket_there, same_index, same_order, cut_back, done, failed, worked, on_err, on_ok}
use Rattle.mail_base.proofs.buckets.Buckets.push.Goals as goal

pub invariant_of-self : goal.invariant_of-self
invariant_of-self c = same_index c.self.inside.anchored.entries c.slot_for.new.anchored.entries c.self.inside.free c.self.inside.free c.self.inside.slots c.self.inside.slots c.in_err-slot.ensures.err refl refl c.self.invariant

pub returns-in_err-slot-clause-err : goal.returns-in_err-slot-clause-err
returns-in_err-slot-clause-err c =
    on_err c.from_residual-in_err-slot.result (same_order c.self.inside.anchored.entries c.slot_for.new.anchored.entries c.self.inside.free c.self.inside.free c.self.inside.slots c.self.inside.slots c.in_err-slot.ensures.err refl refl ∙ c.self.view_is)

pub add-added-requires : goal.add-added-requires
add-added-requires c = bucket_there c.args.rule c.in_ok-slot.slot c.slot_for.new.anchored.entries c.self.inside.free c.in_ok-slot.ensures.slot

pub invariant_of-self-then-is_err : goal.invariant_of-self-then-is_err
invariant_of-self-then-is_err c =
    let kept = (failed c.add-added.result (sym c.is_err.ensures.value ∙ c.if-is_err.true) c.add-added.ensures.err) in
    same_index c.self.inside.anchored.entries c.truncate.new.self.entries c.self.inside.free c.add-added.new.free c.self.inside.slots c.add-added.new.slots (cut_back c.self.inside.anchored.entries c.slot_for.new.anchored.entries c.add-added.new.anchored.entries c.truncate.new.self.entries c.len-before.result c.in_ok-slot.ensures.keeps kept.0 c.truncate.ensures.entries c.len-before.ensures.len) kept.1 kept.2 c.self.invariant

pub returns-then-is_err-clause-err : goal.returns-then-is_err-clause-err
returns-then-is_err-clause-err c =
    let kept = (failed c.add-added.result (sym c.is_err.ensures.value ∙ c.if-is_err.true) c.add-added.ensures.err) in
    on_err c.add-added.result (same_order c.self.inside.anchored.entries c.truncate.new.self.entries c.self.inside.free c.add-added.new.free c.self.inside.slots c.add-added.new.slots (cut_back c.self.inside.anchored.entries c.slot_for.new.anchored.entries c.add-added.new.anchored.entries c.truncate.new.self.entries c.len-before.result c.in_ok-slot.ensures.keeps kept.0 c.truncate.ensures.entries c.len-before.ensures.len) kept.1 kept.2 ∙ c.self.view_is)

pub invariant_of-self-else-is_err : goal.invariant_of-self-else-is_err
invariant_of-self-else-is_err c = (done c.self.inside.anchored.entries c.slot_for.new.anchored.entries c.add-added.new.anchored.entries c.self.inside.free c.add-added.new.free c.self.inside.slots c.add-added.new.slots c.in_ok-slot.slot c.args.rule c.in_ok-number.number c.in_ok-slot.ensures.keeps c.in_ok-slot.ensures.order c.self.invariant c.in_ok-slot.ensures.slot
    (worked c.add-added.result (sym c.is_err.ensures.value ∙ c.if-is_err.false) c.add-added.ensures.ok) c.in_ok-number.ensures.0 c.in_ok-number.ensures.1).0

pub returns-else-is_err-clause-ok : goal.returns-else-is_err-clause-ok
returns-else-is_err-clause-ok c = on_ok c.add-added.result ((done c.self.inside.anchored.entries c.slot_for.new.anchored.entries c.add-added.new.anchored.entries c.self.inside.free c.add-added.new.free c.self.inside.slots c.add-added.new.slots c.in_ok-slot.slot c.args.rule c.in_ok-number.number c.in_ok-slot.ensures.keeps c.in_ok-slot.ensures.order c.self.invariant c.in_ok-slot.ensures.slot
    (worked c.add-added.result (sym c.is_err.ensures.value ∙ c.if-is_err.false) c.add-added.ensures.ok) c.in_ok-number.ensures.0 c.in_ok-number.ensures.1).1 ∙ ap (λ (rules : List Rule). rules ++ c.args.rule ∷ []) c.self.view_is)
