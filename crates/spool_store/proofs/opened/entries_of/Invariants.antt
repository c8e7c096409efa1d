-- The entries so far.
use Rattle.std.proofs.Common.{take, Contains}
use Rattle.std.specs.Prelude.{All}
use Rattle.spool_disk.specs.Disk.{FileMap}
use Rattle.spool_store.specs.Openings.{IsFitting}
use Rattle.spool_store.specs.declared.named.Found.{Found}
use Rattle.spool_store.specs.inner.Finds.{AreFound, HasText}
use Rattle.spool_store.specs.inner.Judging.{AreJudged}
use Rattle.spool_store.specs.inner.Telling.{AreTold}
use Rattle.spool_store.proofs.OrderLemmas.{IsListed}
use Rattle.spool_store.proofs.opened.entries_of.Given as goal

abbrev pub invariant-loop-place : goal.invariant-loop-place
invariant-loop-place l = record { told : (f : FileMap) → AreFound l.dirs f l.found → AreJudged l.dirs f l.found l.verdicts → AreTold l.dirs f (take l.place l.found) l.entries; listed : IsListed l.found l.place l.entries; fit : ((x : Found) → Contains l.found x → HasText x) → All (IsFitting l.dirs) l.entries }
