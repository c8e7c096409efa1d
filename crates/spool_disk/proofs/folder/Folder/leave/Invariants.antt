-- The files so far, and those of the rest, are those of all.
use Rattle.std.proofs.Common.{◌≡◌, ◌++◌}
use Rattle.spool_disk.specs.inner.Folders.{filed}
use Rattle.spool_disk.proofs.folder.Folder.leave.Given as goal

abbrev pub invariant-loop-name : goal.invariant-loop-name
invariant-loop-name l = l.files ++ filed l.dir l.name-iterator ≡ l.initial.files ++ filed l.dir l.self
