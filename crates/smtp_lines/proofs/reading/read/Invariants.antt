use Rattle.std.proofs.Common.{◌≡◌, ℕ, ◌-◌, ◌≤◌, false, List, length}
use Rattle.smtp_lines.specs.Stream.{has_end, ends_in_cr}
use Rattle.smtp_lines.specs.Reader.{asked_after}
use Rattle.smtp_lines.specs.inner.Readings.{IsKept}
use Rattle.smtp_lines.proofs.ReadLemmas.{SoFar}
use Rattle.smtp_lines.proofs.reading.read.Given as goal

abbrev pub invariant-lines : goal.invariant-lines
invariant-lines l = record {
  within : l.used ≤ length l.bytes;
  quiet : asked_after false l.lines ≡ false;
  so_far : (begun : List ℕ) → IsKept l.fn.mode begun l.fn.kept → has_end l.fn.mode begun ≡ false → ends_in_cr begun ≡ l.fn.after_cr
      → SoFar l.fn.mode begun l.bytes l.lines l.mode l.kept l.after_cr l.used;
}

abbrev pub decreases-lines : goal.decreases-lines
decreases-lines l = length l.bytes - l.used
