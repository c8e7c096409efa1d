-- A place that is pushed is written behind those of its heading.
use Rattle.queue_plan.proofs.BucketLemmas.{put_there}
use Rattle.queue_plan.proofs.buckets.put.Goals as goal

pub returns-in-Some : goal.returns-in-Some
returns-in-Some c =
    put_there c.push.result c.args.heading.now c.args.place c.in-Some.places.now c.push.new.self c.args.buckets.now.entries _ c.in-Some.ensures.value (c.get_mut.follows.holds c.push.new.self).0 c.push.ensures.ok
