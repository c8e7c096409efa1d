-- Those so far.
use Rattle.std.proofs.Common.{take}
use Rattle.spool_store.specs.inner.Plans.{AreDrafts}
use Rattle.spool_store.proofs.plan.drafts.Given as goal

abbrev pub invariant-loop-named : goal.invariant-loop-named
invariant-loop-named l = record { picks : AreDrafts (take l.named-index l.names) l.out }
