use Rattle.std.proofs.Common.{◌≡◌, ◌++◌, ◌∷◌, [], map, take}
use Rattle.ruleset_run.proofs.sets.push_digits.Given as goal

-- the digits so far are added
abbrev pub invariant-loop-digit : goal.invariant-loop-digit
invariant-loop-digit l = l.sets ≡ l.fn.sets ++ map (λ digit. digit ∷ []) (take l.digit-index l.digits)
