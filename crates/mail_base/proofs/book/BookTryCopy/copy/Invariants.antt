use Rattle.std.proofs.Common.{◌≡◌, take}
use Rattle.mail_base.proofs.book.BookTryCopy.copy.Given as goal

-- the rulesets so far are copied
abbrev pub invariant-loop-set : goal.invariant-loop-set
invariant-loop-set l = l.copied ≡ take l.set-index l.set-items
