-- The lines of the entries so far, and nothing has changed.
use Rattle.std.proofs.Common.{◌≡◌, ◌++◌, Ok, Some, map, take}
use Rattle.std.specs.List.{flat_map}
use Rattle.spool_disk.specs.Disk.{FileMap}
use Rattle.spool_store.specs.inner.Looks.{Looks}
use Rattle.sendmail_run.specs.inner.Listing.{held_lines}
use Rattle.sendmail_run.proofs.queue_listing.push_entries.Given as goal

abbrev pub invariant-loop-held : goal.invariant-loop-held
invariant-loop-held g l = record {
  lines : (files : FileMap) → (g.D.Spool.seen l.fn.spool).told ≡ Some files → l.text ≡ l.fn.text ++ flat_map (held_lines files) (map (λ h. h.now) (take l.held-index l.shown));
  looks : Looks {T = Unit {0}} (g.D.Spool.seen l.fn.spool) (g.D.Spool.seen l.spool) (Ok tt);
}
