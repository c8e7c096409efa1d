-- Those so far.
use Rattle.std.proofs.Common.{take, Contains, List, ℕ, ◌≡◌}
use Rattle.mail_base.specs.declared.id.Kind.TheVariants.{Qf}
use Rattle.spool_disk.specs.Disk.{FileMap}
use Rattle.spool_store.specs.declared.named.Named.{Named}
use Rattle.spool_store.specs.inner.Finds.{AreFound}
use Rattle.spool_store.specs.inner.Judging.{AreJudged}
use Rattle.spool_store.specs.inner.Plans.{AreDone, Stays, its_name}
use Rattle.spool_store.proofs.plan.closed.Given as goal

abbrev pub invariant-loop-place : goal.invariant-loop-place
invariant-loop-place l = record {
  stays : (x : Named) → Contains l.out x → Stays its_name l.found x;
  kinds : (x : Named) → Contains l.out x → x.kind ≡ Qf;
  picks : (dirs : List (List ℕ)) (f : FileMap) → AreFound dirs f l.found → AreJudged dirs f l.found l.verdicts → AreDone dirs f (take l.place l.found) l.out;
}
