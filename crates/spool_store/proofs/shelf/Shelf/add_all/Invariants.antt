-- The parts so far stand behind the entries that were there.
use Rattle.std.proofs.Common.{◌≡◌, ◌+◌, ◌++◌, length, map}
use Rattle.spool_store.specs.inner.Commits.{queued}
use Rattle.spool_store.proofs.shelf.Shelf.add_all.Given as goal

abbrev pub invariant-loop-part : goal.invariant-loop-part
invariant-loop-part l = record {
  dirs : l.self.dirs ≡ l.fn.self.dirs;
  items : l.self.items ≡ l.fn.self.items ++ map queued l.yielded;
  next : l.self.next ≡ l.fn.self.next + length l.yielded;
  room : l.self.room + length l.yielded ≡ l.fn.self.room;
}
