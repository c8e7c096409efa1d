use Rattle.std.proofs.Common.{◌≡◌, drop}
use Rattle.rule_match.specs.Wants.{wants}
use Rattle.rule_match.specs.inner.Steps.{front_stands}
use Rattle.rule_match.proofs.matcher.front_stands.Given as goal

-- what is left of the items and of the tokens decides
abbrev pub invariant-loop-item : goal.invariant-loop-item
invariant-loop-item l = front_stands (wants l.classes l.lists (drop l.item-index l.items)) l.left ≡ front_stands (wants l.classes l.late l.items) l.tokens
