use Rattle.std.proofs.Common.{◌≡◌, map, take}
use Rattle.mailer_smtp.specs.Texts.{rcpt_of}
use Rattle.mailer_smtp.proofs.texts.rcpts.Given as goal

abbrev pub invariant-loop-user : goal.invariant-loop-user
invariant-loop-user l = l.lines ≡ map rcpt_of (take l.user-index l.user-items)
