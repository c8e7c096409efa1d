use Rattle.std.proofs.Common.{take}
use Rattle.std.specs.List.{concat}
use Rattle.smtp_lines.specs.inner.Courses.{ReadSoFar}
use Rattle.smtp_lines.proofs.stream.read_stream.Given as goal

abbrev pub invariant-loop-piece : goal.invariant-loop-piece
invariant-loop-piece l = ReadSoFar l.fn.grants l.rest l.reader l.lines.items (concat (take l.piece-index l.pieces))
