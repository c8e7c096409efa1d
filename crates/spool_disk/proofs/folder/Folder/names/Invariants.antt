-- The names so far, and those of the rest of the files, are those of all.
use Rattle.std.proofs.Common.{◌≡◌, ◌++◌}
use Rattle.std.specs.Map.{keys_of}
use Rattle.spool_disk.proofs.folder.Folder.names.Given as goal

abbrev pub invariant-loop-name : goal.invariant-loop-name
invariant-loop-name l = l.names.items ++ keys_of l.name-iterator ≡ keys_of l.self
