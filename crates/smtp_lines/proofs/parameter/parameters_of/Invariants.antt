use Rattle.std.proofs.Common.{◌≡◌, ◌≤◌, ◌+◌, ◌-◌, Some, length, drop}
use Rattle.smtp_lines.specs.Parameters.{words_of}
use Rattle.smtp_lines.specs.Reading.{with_words, parameters_of}
use Rattle.smtp_lines.proofs.parameter.parameters_of.Given as goal

abbrev pub invariant-loop-place : goal.invariant-loop-place
invariant-loop-place l = record {
  within : l.place ≤ length l.text + 1;
  rest : with_words (words_of (drop l.place l.text)) (Some l.given) ≡ parameters_of l.text;
}

abbrev pub decreases-loop-place : goal.decreases-loop-place
decreases-loop-place l = length l.text + 1 - l.place
