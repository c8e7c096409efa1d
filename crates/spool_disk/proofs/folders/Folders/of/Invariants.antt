-- The files so far are held.
use Rattle.std.proofs.Common.{take}
use Rattle.spool_disk.specs.inner.Folders.{Holds}
use Rattle.spool_disk.proofs.folders.Folders.of.Given as goal

abbrev pub invariant-loop-file : goal.invariant-loop-file
invariant-loop-file l = Holds l.folders (take l.file-index l.files)
