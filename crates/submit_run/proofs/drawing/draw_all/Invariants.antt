use Rattle.std.proofs.Common.{false}
use Rattle.mail_edge.specs.Asking.{Asks}
use Rattle.submit_run.specs.inner.Steps.{AreGathered}
use Rattle.submit_run.proofs.DrawingLemmas.{Completes}
use Rattle.submit_run.proofs.drawing.draw_all.Given as goal

-- what completes the rest completes the whole, and the files didn't fail
abbrev pub invariant-recipients : goal.invariant-recipients
invariant-recipients g l = record {
  so_far : Completes l.grounds (g.F.Files.seen l.fn.files).map l.sender l.recipients l.place l.rows;
  form : AreGathered l.place l.rows;
  asks : Asks (g.F.Files.seen l.fn.files) (g.F.Files.seen l.files) false;
}
