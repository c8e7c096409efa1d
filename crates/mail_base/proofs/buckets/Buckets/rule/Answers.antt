use Rattle.std.proofs.Common.{List, ap, sym, ◌∙◌}
use Rattle.std.specs.Prelude.{slice_get}
use Rattle.std.specs.Option.{option_copied}
use Rattle.mail_base.specs.declared.rule.Rule.{Rule}
use Rattle.mail_base.specs.Buckets.{in_order}
use Rattle.mail_base.proofs.BucketLemmas.{some_slot, no_slot}
use Rattle.mail_base.proofs.buckets.Buckets.rule.Goals as goal

pub returns-in-Some : goal.returns-in-Some
returns-in-Some c =
    c.rule_of.ensures
    ∙ some_slot (in_order c.self.inside.anchored.entries c.self.inside.free c.self.inside.slots) c.self.inside.anchored.entries c.self.inside.free c.self.inside.slots c.args.number c.in-Some.slot.now c.self.invariant
    (sym c.get.ensures ∙ ap option_copied c.in-Some.is) (option_copied c.stored.result) c.stored.ensures
    ∙ ap (λ (rules : List Rule). slice_get rules c.args.number) c.self.view_is

pub returns-in-None : goal.returns-in-None
returns-in-None c =
    sym (no_slot (in_order c.self.inside.anchored.entries c.self.inside.free c.self.inside.slots) c.self.inside.anchored.entries c.self.inside.free c.self.inside.slots c.args.number c.self.invariant
    (sym c.get.ensures ∙ ap option_copied c.in-None.is))
    ∙ ap (λ (rules : List Rule). slice_get rules c.args.number) c.self.view_is
