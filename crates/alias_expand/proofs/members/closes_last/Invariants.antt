use Rattle.std.proofs.Common.{◌≡◌, false, drop}
use Rattle.alias_expand.specs.Members.{closes_last}
use Rattle.alias_expand.proofs.members.closes_last.Given as goal

-- the rest closes as all does
abbrev pub invariant-loop-index : goal.invariant-loop-index
invariant-loop-index l = closes_last l.escaped (drop l.index l.text) ≡ closes_last false l.text
