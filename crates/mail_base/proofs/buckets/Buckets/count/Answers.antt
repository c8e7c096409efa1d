use Rattle.std.proofs.Common.{length, ap, ◌∙◌}
use Rattle.mail_base.specs.Buckets.{in_order}
use Rattle.mail_base.proofs.BucketLemmas.{index_length}
use Rattle.mail_base.proofs.buckets.Buckets.count.Goals as goal

pub returns : goal.returns
returns c =
    c.len.ensures ∙ index_length (in_order c.self.inside.anchored.entries c.self.inside.free c.self.inside.slots) c.self.inside.anchored.entries c.self.inside.free c.self.inside.slots c.self.invariant ∙ ap length c.self.view_is
