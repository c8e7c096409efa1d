-- The directories so far are listed, and nothing has changed.
use Rattle.std.proofs.Common.{◌≡◌, ◌<◌, Ok, Some, Contains}
use Rattle.spool_disk.specs.Disk.{FileMap}
use Rattle.spool_store.specs.declared.named.Named.{Named}
use Rattle.spool_store.specs.inner.Finds.{AreNamed, AreForeign}
use Rattle.spool_store.specs.inner.Looks.{Looks}
use Rattle.spool_store.proofs.listed.list_dirs.Given as goal

abbrev pub invariant-loop-number : goal.invariant-loop-number
invariant-loop-number g l = record {
  within : (x : Named) → Contains l.listed.named x → x.dir < l.number;
  files : (f : FileMap) → (g.D.Spool.seen l.fn.spool).told ≡ Some f → AreNamed l.dirs f l.number l.listed.named × AreForeign l.dirs f l.number l.listed.strays;
  looks : Looks {T = Unit {0}} (g.D.Spool.seen l.fn.spool) (g.D.Spool.seen l.spool) (Ok tt);
}
