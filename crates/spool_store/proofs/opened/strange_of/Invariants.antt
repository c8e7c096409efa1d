-- The strays so far.
use Rattle.std.proofs.Common.{take}
use Rattle.spool_disk.specs.Disk.{FileMap}
use Rattle.spool_store.specs.inner.Judging.{AreJudged}
use Rattle.spool_store.specs.inner.Telling.{AreShown}
use Rattle.spool_store.proofs.opened.strange_of.Given as goal

abbrev pub invariant-loop-place : goal.invariant-loop-place
invariant-loop-place l = record { shown : (f : FileMap) → AreJudged l.dirs f l.found l.verdicts → AreShown l.dirs f l.strays (take l.place l.found) l.strange }
