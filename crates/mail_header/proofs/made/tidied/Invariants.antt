use Rattle.std.proofs.Common.{◌≡◌, ◌++◌, drop}
use Rattle.mail_header.specs.Made.{tidied}
use Rattle.mail_header.proofs.made.tidied.Given as goal

abbrev pub invariant-loop-place : goal.invariant-loop-place
invariant-loop-place l = l.tidy ++ tidied (drop l.place l.text) ≡ tidied l.text
