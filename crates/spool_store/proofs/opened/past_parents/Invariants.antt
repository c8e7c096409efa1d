-- Past those so far.
use Rattle.std.proofs.Common.{take}
use Rattle.spool_store.specs.inner.Telling.{IsPast}
use Rattle.spool_store.proofs.opened.past_parents.Given as goal

abbrev pub invariant-loop-x : goal.invariant-loop-x
invariant-loop-x l = record { past : IsPast (take l.x-index l.found) l.next l.past }
