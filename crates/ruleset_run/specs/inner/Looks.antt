-- The walk over the rules that may match.
use Rattle.std.specs.Prelude.{◌≡◌, ℕ, ◌==◌, ◌<◌, ◌≤◌, List, Some, Bool, true, false, slice_get, if◌then◌else◌}
use Rattle.std.specs.List.{list_any}
use Rattle.mail_base.specs.Metas.{is_late}
use Rattle.mail_base.specs.declared.classes.Classes.{Classes}
use Rattle.mail_base.specs.declared.rule.Item.{Item}
use Rattle.mail_base.specs.declared.rule.Rule.{Rule}
use Rattle.mail_base.specs.declared.token.Token.{Token}
use Rattle.rule_match.specs.declared.cuts.Cut.{Cut}
use Rattle.rule_match.specs.Choices.{Fits}
use Rattle.rule_match.specs.Kept.{IsChoice}
use Rattle.rule_match.specs.Wants.{wants}
use Rattle.ruleset_run.specs.declared.fault.RunFault.{RunFault}
use Rattle.ruleset_run.specs.declared.fault.RunFault.TheVariants as faults

-- the rule has no `$&x` on its left side, and no match with the tokens, whatever the classes are
abbrev pub CannotMatch : List Token → Rule → Type 0
CannotMatch tokens rule = (list_any is_late rule.left ≡ false)
    × ((classes : Classes) (late : List (List Token)) (lengths : List ℕ)
    → Fits (wants classes late rule.left) tokens lengths → ⊥)

-- the rule of a number, at or behind another, where those from that on before it can't match
pub record IsAhead (rules : List Rule) (from : ℕ) (tokens : List Token) (number : ℕ)
    (rule : Rule) : Type 0 where
  pub above : from ≤ number
  pub is : slice_get rules number ≡ Some rule
  pub first : (k : ℕ) (other : Rule) → from ≤ k → k < number → slice_get rules k ≡ Some other
      → CannotMatch tokens other

-- how often the rule of a number was applied in succession, where that from which the search began
-- was so often
abbrev pub times_at : ℕ → ℕ → ℕ → ℕ
times_at number from times = if number == from then times else 0

-- why a left side can't be read: a `$&x` of it can't be cut
abbrev pub LeftFault : Bool → RunFault → Type 0
LeftFault is_cut faults.BadScan = is_cut ≡ false
LeftFault is_cut faults.NoMemory = Unit {0}
LeftFault is_cut _ = ⊥

-- why a rule may not be applied once more, after so many successive applications and so many in all
abbrev pub LimitFault : ℕ → ℕ → RunFault → Type 0
LimitFault times work faults.Loop = 100 ≤ times
LimitFault times work faults.Work = (times < 100) × (10000 ≤ work)
LimitFault times work _ = ⊥

-- the cuts of the match that a left side takes, or that none fits, once it can be read
abbrev pub MatchFound : Bool → Classes → List (List Token) → List Item → List Token
    → List Cut → Bool → Type 0
MatchFound is_cut classes late items tokens cuts true =
    (is_cut ≡ true) × IsChoice classes late items tokens cuts
MatchFound is_cut classes late items tokens cuts false =
    (is_cut ≡ true) × ((lengths : List ℕ) → Fits (wants classes late items) tokens lengths → ⊥)
