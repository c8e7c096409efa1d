use Rattle.std.proofs.Common.{◌≡◌, ◌≤◌, ◌-◌, length, drop}
use Rattle.smtp_lines.specs.PathEnds.{path_end}
use Rattle.smtp_lines.proofs.PathStepLemmas.{moved}
use Rattle.smtp_lines.proofs.path.path_end.Given as goal

abbrev pub invariant-loop-place : goal.invariant-loop-place
invariant-loop-place l = record {
  within : l.place ≤ length l.text;
  rest : moved l.place (path_end (drop l.place l.text) 0) ≡ path_end l.text 0;
}

abbrev pub decreases-loop-place : goal.decreases-loop-place
decreases-loop-place l = length l.text - l.place
