use Rattle.std.proofs.Common.{◌≡◌, drop}
use Rattle.mail_base.specs.Candidates.{first_word}
use Rattle.mail_base.proofs.rule.first_word.Given as goal

-- the items that are left decide
abbrev pub invariant-loop-item : goal.invariant-loop-item
invariant-loop-item l = first_word (drop l.item-index l.items) ≡ first_word l.items
