use Rattle.std.proofs.Common.{◌≡◌, take}
use Rattle.sendmail_run.specs.Printing.{warnings_text}
use Rattle.sendmail_run.proofs.warning.warnings_of.Given as goal

-- a line for each number so far
abbrev pub invariant-loop-number : goal.invariant-loop-number
invariant-loop-number l = l.text ≡ warnings_text (take l.number-index l.number-items)
