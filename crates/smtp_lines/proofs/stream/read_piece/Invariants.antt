use Rattle.std.proofs.Common.{◌≡◌, ◌+◌, ℕ, Bool, true, false, cond, List, [], ◌++◌, length}
use Rattle.smtp_lines.specs.Reader.{asked_after}
use Rattle.smtp_lines.specs.inner.Courses.{ReadSoFar}
use Rattle.smtp_lines.proofs.RunLemmas.{Answering}
use Rattle.smtp_lines.proofs.stream.read_piece.Given as goal

abbrev pub invariant-answers : goal.invariant-answers
invariant-answers l = record {
  turns : asked_after false l.fresh ≡ true → l.reader.under.may_turn ≡ true;
  all : asked_after false l.fresh ≡ false → l.reader.left ≡ [];
  answering : (granted : List Bool) (bytes : List ℕ) → ReadSoFar granted l.fn.grants l.fn.reader l.fn.lines.items bytes
      → Answering granted l.rest l.reader l.lines.items l.fresh (bytes ++ l.fn.piece);
}

abbrev pub decreases-answers : goal.decreases-answers
decreases-answers l = length l.reader.left + cond (asked_after false l.fresh) 1 0
