use Rattle.std.proofs.Common.{◌≡◌, ◌++◌, drop}
use Rattle.mailer_smtp.specs.declared.dots.LinePlace.TheVariants.{LineStart}
use Rattle.mailer_smtp.specs.Texts.{dotted_from}
use Rattle.mailer_smtp.proofs.dots.stuffed.Given as goal

abbrev pub invariant-loop-byte : goal.invariant-loop-byte
invariant-loop-byte l = l.text ++ dotted_from l.place (drop l.byte-index l.message) ≡ dotted_from LineStart l.message
