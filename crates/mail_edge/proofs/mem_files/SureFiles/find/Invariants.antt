-- What the rest of the files gives is what all give.
use Rattle.std.proofs.Common.{◌≡◌, drop}
use Rattle.mail_edge.specs.Seen.{text_of}
use Rattle.mail_edge.proofs.mem_files.SureFiles.find.Given as goal

abbrev pub invariant-loop-file : goal.invariant-loop-file
invariant-loop-file l = text_of (drop l.file-index l.file-items) l.name ≡ text_of l.file-items l.name
