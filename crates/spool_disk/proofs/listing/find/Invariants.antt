-- What the rest of the files gives is what all give.
use Rattle.std.proofs.Common.{◌≡◌, drop}
use Rattle.spool_disk.specs.Disk.{bytes_at}
use Rattle.spool_disk.proofs.listing.find.Given as goal

abbrev pub invariant-loop-file : goal.invariant-loop-file
invariant-loop-file l = bytes_at (drop l.file-index l.files) (l.dir, l.name) ≡ bytes_at l.files (l.dir, l.name)
