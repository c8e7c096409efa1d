use Rattle.std.specs.Option.{option_copied}
use Rattle.mail_base.proofs.BucketLemmas.{take_next}
use Rattle.mail_base.proofs.buckets.BucketsTryCopy.copy.Goals as goal

pub loop-number-preserved : goal.loop-number-preserved
loop-number-preserved c = take_next c.args.self.now c.loop-number.copied c.push_copy.new.copied c.loop-number.number (option_copied c.rule.result) c.loop-number.invariant c.rule.ensures c.in_ok-push_copy.ensures
