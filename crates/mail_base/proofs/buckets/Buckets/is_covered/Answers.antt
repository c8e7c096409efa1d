use Rattle.std.proofs.Common.{◌∙◌, ap, sym}
use Rattle.std.specs.Option.{option_copied}
use Rattle.mail_base.specs.Buckets.{in_order}
use Rattle.mail_base.specs.Masks.{covers}
use Rattle.mail_base.proofs.BucketLemmas.{rule_has_slot, slot_wants}
use Rattle.mail_base.proofs.buckets.Buckets.is_covered.Goals as goal

pub returns-in-Some : goal.returns-in-Some
returns-in-Some c = λ rule at.
    c.covers.ensures
    ∙ ap (covers c.args.mask) (slot_wants (in_order c.self.inside.anchored.entries c.self.inside.free c.self.inside.slots) c.args.self.now c.self.inside.anchored.entries c.self.inside.free c.self.inside.slots c.self.invariant c.self.view_is c.args.number c.in-Some.slot.now rule
    (sym c.get.ensures ∙ ap option_copied c.in-Some.is) at)

pub returns-in-None : goal.returns-in-None
returns-in-None c = λ rule at.
    absurd (rule_has_slot (in_order c.self.inside.anchored.entries c.self.inside.free c.self.inside.slots) c.args.self.now c.self.inside.anchored.entries c.self.inside.free c.self.inside.slots c.self.invariant c.self.view_is c.args.number rule at
    (sym c.get.ensures ∙ ap option_copied c.in-None.is))
