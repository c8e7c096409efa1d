use Rattle.mail_core.specs.inner.Lanes.{AreSet, named_lane}
use Rattle.mail_core.proofs.lanes.group_lanes.Given as goal

abbrev pub invariant-loop-index : goal.invariant-loop-index
invariant-loop-index l = AreSet (named_lane l.usual l.config.options.min_queue_age) l.config.groups l.index l.lanes
