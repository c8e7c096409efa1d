use Rattle.std.proofs.Common.{◌≡◌, ◌++◌, drop}
use Rattle.mail_base.specs.Literals.{literal}
use Rattle.mail_base.proofs.literals.literal.Given as goal

abbrev pub invariant-loop-byte : goal.invariant-loop-byte
invariant-loop-byte l = l.value ++ literal (drop l.byte-index l.text) ≡ literal l.text
