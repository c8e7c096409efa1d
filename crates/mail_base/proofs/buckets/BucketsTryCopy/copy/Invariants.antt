use Rattle.std.proofs.Common.{◌≡◌, take}
use Rattle.mail_base.proofs.buckets.BucketsTryCopy.copy.Given as goal

-- the rules so far are copied
abbrev pub invariant-loop-number : goal.invariant-loop-number
invariant-loop-number l = l.copied ≡ take l.number l.self
