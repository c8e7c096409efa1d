use Rattle.std.proofs.Common.{ℕ, ◌<◌, length, List, ◌∷◌}
use Rattle.rule_match.specs.Choices.{Fits}
use Rattle.rule_match.specs.Wants.{want, wants}
use Rattle.rule_match.proofs.trial.+least.Given as goal

abbrev pub decreases-least : goal.decreases-least
decreases-least l = length l.items.now

-- no shorter piece of the first item fits with the others
abbrev pub invariant-loop-length : goal.invariant-loop-length
invariant-loop-length l = (m : ℕ) (later : List ℕ) → m < l.length → Fits (want l.classes l.late l.item ∷ wants l.classes l.others l.after) l.left (m ∷ later) → ⊥
