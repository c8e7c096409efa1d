-- The control files so far are read, and nothing has changed.
use Rattle.std.proofs.Common.{◌≡◌, Ok, Some, take, length}
use Rattle.spool_disk.specs.Disk.{FileMap}
use Rattle.spool_store.specs.inner.Finds.{AreAmong, AreNamed, AreRead}
use Rattle.spool_store.specs.inner.Looks.{Looks}
use Rattle.spool_store.proofs.looking.read_all.Given as goal

abbrev pub invariant-loop-named : goal.invariant-loop-named
invariant-loop-named g l = record {
  found : (f : FileMap) → (g.D.Spool.seen l.fn.spool).told ≡ Some f → AreNamed l.dirs f (length l.dirs) l.names → AreRead l.dirs f (take l.named-index l.names) l.found;
  among : AreAmong (take l.named-index l.names) l.found;
  looks : Looks {T = Unit {0}} (g.D.Spool.seen l.fn.spool) (g.D.Spool.seen l.spool) (Ok tt);
}
