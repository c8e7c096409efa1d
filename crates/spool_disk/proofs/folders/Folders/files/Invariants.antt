-- The files so far, and those of the rest of the directories, are all.
use Rattle.std.proofs.Common.{◌≡◌, ◌++◌, drop}
use Rattle.spool_disk.specs.inner.Folders.{all_filed}
use Rattle.spool_disk.proofs.folders.Folders.files.Given as goal

abbrev pub invariant-loop-index : goal.invariant-loop-index
invariant-loop-index l = l.files ++ all_filed (drop l.index l.self) ≡ all_filed l.self
