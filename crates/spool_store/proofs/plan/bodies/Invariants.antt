-- Those so far.
use Rattle.std.proofs.Common.{take, Contains, List, ℕ}
use Rattle.spool_disk.specs.Disk.{FileMap}
use Rattle.spool_store.specs.declared.named.Named.{Named}
use Rattle.spool_store.specs.inner.Finds.{AreFound}
use Rattle.spool_store.specs.inner.Judging.{AreJudged}
use Rattle.spool_store.specs.inner.Plans.{AreUnwanted}
use Rattle.spool_store.proofs.plan.bodies.Given as goal

abbrev pub invariant-loop-named : goal.invariant-loop-named
invariant-loop-named l = record {
  stays : (x : Named) → Contains l.out x → Contains l.names x;
  picks : (dirs : List (List ℕ)) (f : FileMap) → AreFound dirs f l.found → AreJudged dirs f l.found l.verdicts → AreUnwanted dirs f (take l.named-index l.names) l.out;
}
