-- All headings were gathered.
use Rattle.std.proofs.Common.{arith}
use Rattle.queue_plan.proofs.BucketLemmas.{next_place}
use Rattle.queue_plan.proofs.buckets.gathered.Goals as goal

pub loop-place-preserved : goal.loop-place-preserved
loop-place-preserved c =
    let l = c.loop-place in
    next_place c.args.headings.now l.place c.index-headings-place.result l.buckets.entries c.put.new.buckets.entries (omega arith) c.index-headings-place.is l.invariant c.in_ok-put.ensures
