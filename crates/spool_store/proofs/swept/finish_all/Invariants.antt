-- Those so far are finished.
use Rattle.std.proofs.Common.{List, ◌++◌, Contains, take, Ok}
use Rattle.spool_disk.specs.Disk.{FileMap, Place}
use Rattle.spool_store.specs.Moves.{Moves}
use Rattle.spool_store.specs.Tidying.{IsTidied}
use Rattle.spool_store.specs.declared.named.Named.{Named}
use Rattle.spool_store.specs.inner.Sweeps.{Counts, IsSweptOf, MayFinish, places}
use Rattle.spool_store.proofs.swept.finish_all.Given as goal

abbrev pub invariant-loop-named : goal.invariant-loop-named
invariant-loop-named g l = record {
  moves : (f : FileMap) (done : List Place) → ((x : Named) → Contains l.closed x → MayFinish l.dirs f done x) → Moves
      (g.D.Spool.seen l.fn.spool)
      (g.D.Spool.seen l.spool)
      (IsSweptOf l.dirs f done)
      (IsSweptOf l.dirs f (done ++ places l.dirs (take l.named-index l.closed)))
      (IsTidied l.dirs f);
  counts : Counts {T = Unit {0}} (g.D.Spool.seen l.fn.spool) (g.D.Spool.seen l.spool) (Ok tt);
}
