use Rattle.std.proofs.Common.{◌≡◌, drop}
use Rattle.mail_base.specs.Candidates.{first_exact}
use Rattle.mail_base.proofs.rule.first_exact.Given as goal

-- the items that are left decide
abbrev pub invariant-loop-item : goal.invariant-loop-item
invariant-loop-item l = first_exact (drop l.item-index l.items) ≡ first_exact l.items
