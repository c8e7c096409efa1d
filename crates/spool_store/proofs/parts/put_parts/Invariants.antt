-- The parts so far are written.
use Rattle.std.proofs.Common.{◌≡◌, ◌≤◌, take, map, Contains, ℕ, List, []}
use Rattle.spool_disk.specs.Disk.{FileMap}
use Rattle.spool_store.specs.Entries.{Stored}
use Rattle.spool_store.specs.Moves.{Moves}
use Rattle.spool_store.specs.Parts.{entry_of}
use Rattle.spool_store.specs.inner.Parts.{AreNew, IsUnderWay}
use Rattle.spool_store.specs.Writes.{AreWritten}
use Rattle.spool_store.proofs.parts.put_parts.Given as goal

abbrev pub invariant-loop-part : goal.invariant-loop-part
invariant-loop-part g l = record {
  moves : (f : FileMap) (next : ℕ) (own : List Stored) → AreNew f next (map (entry_of l.body) l.parts) → ((s : Stored) → Contains (map (entry_of l.body) l.parts) s → Contains own s)
      → Moves (g.D.Spool.seen l.fn.spool) (g.D.Spool.seen l.spool) (AreWritten [] f) (λ x. AreWritten (take l.part-index (map (entry_of l.body) l.parts)) f x × IsUnderWay next own (map (entry_of l.body) l.parts) f x) (IsUnderWay next own (map (entry_of l.body) l.parts) f);
  later : (g.D.Spool.seen l.fn.spool).faults ≤ (g.D.Spool.seen l.spool).faults;
  calm : (g.D.Spool.seen l.spool).faults ≡ (g.D.Spool.seen l.fn.spool).faults;
}
