use Rattle.std.proofs.Common.{◌≡◌, ◌≤◌, ◌+◌, ◌-◌, length, drop}
use Rattle.smtp_lines.specs.PathEnds.{quote_length}
use Rattle.smtp_lines.proofs.PathStepLemmas.{moved}
use Rattle.smtp_lines.proofs.path.quote_length.Given as goal

abbrev pub invariant-loop-place : goal.invariant-loop-place
invariant-loop-place l = record {
  within : l.place ≤ length l.text + 1;
  rest : moved l.place (quote_length (drop l.place l.text)) ≡ quote_length l.text;
}

abbrev pub decreases-loop-place : goal.decreases-loop-place
decreases-loop-place l = length l.text + 1 - l.place
