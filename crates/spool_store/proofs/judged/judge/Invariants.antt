-- The verdicts so far.
use Rattle.std.proofs.Common.{◌≡◌, length, take}
use Rattle.spool_disk.specs.Disk.{FileMap}
use Rattle.spool_store.specs.inner.Finds.{AreFound, AreNamed}
use Rattle.spool_store.specs.inner.Judging.{AreJudged}
use Rattle.spool_store.proofs.judged.judge.Given as goal

abbrev pub invariant-loop-x : goal.invariant-loop-x
invariant-loop-x l = record {
  long : length l.verdicts ≡ l.x-index;
  judged : (f : FileMap) → AreNamed l.dirs f (length l.dirs) l.names → AreFound l.dirs f l.found → AreJudged l.dirs f (take l.x-index l.found) l.verdicts;
}
