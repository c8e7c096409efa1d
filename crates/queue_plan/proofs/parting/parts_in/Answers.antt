-- The parts of one heading more, until none is left.
use Rattle.std.proofs.Common.{flat_map}
use Rattle.queue_plan.specs.inner.Buckets.{parts_in}
use Rattle.queue_plan.proofs.PlaceLemmas.{all_done, one_more}
use Rattle.queue_plan.proofs.parting.parts_in.Goals as goal

pub loop-heading-preserved : goal.loop-heading-preserved
loop-heading-preserved c =
    let l = c.loop-heading in
    let f = parts_in c.args.config.now c.args.rows.now in
    one_more f l.heading-iterator l.cuts (flat_map f c.into_iter-heading-iterator.result) (c.in-Some.heading.now, c.in-Some.places.now) c.next.new.self c.add_parts.new.cuts c.in-Some.ensures.steps c.in_ok-add_parts.ensures l.invariant

pub returns : goal.returns
returns c =
    let l = c.loop-heading in
    let f = parts_in c.args.config.now c.args.rows.now in
    rw (← c.into_iter-heading-iterator.ensures.into_iter_gives.0) (all_done f l.heading-iterator l.cuts (flat_map f c.into_iter-heading-iterator.result) c.in-None.ensures.steps.0 l.invariant)
