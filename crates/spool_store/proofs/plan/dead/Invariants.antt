-- Those so far.
use Rattle.std.proofs.Common.{take, Contains, List, ℕ}
use Rattle.spool_disk.specs.Disk.{FileMap}
use Rattle.spool_store.specs.declared.named.Named.{Named}
use Rattle.spool_store.specs.inner.Judging.{AreJudged}
use Rattle.spool_store.specs.inner.Plans.{AreDead, Stays, its_name}
use Rattle.spool_store.proofs.plan.dead.Given as goal

abbrev pub invariant-loop-place : goal.invariant-loop-place
invariant-loop-place l = record {
  stays : (x : Named) → Contains l.out x → Stays its_name l.found x;
  picks : (dirs : List (List ℕ)) (f : FileMap) → AreJudged dirs f l.found l.verdicts → AreDead dirs f (take l.place l.found) l.out;
}
