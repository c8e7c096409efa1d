-- What the steps of a filling answer.
use Rattle.std.specs.Prelude.{◌≡◌, ℕ, ◌<◌, ◌≤◌, List, [], ◌∷◌, ◌++◌, Bool, true, false, Result, Ok, Err, map}
use Rattle.mail_base.specs.declared.classes.Classes.{Classes}
use Rattle.mail_base.specs.declared.rule.Item.{Item}
use Rattle.mail_base.specs.declared.rule.Step.{Step}
use Rattle.mail_base.specs.declared.rule.Piece.{Piece}
use Rattle.mail_base.specs.declared.rule.Piece.TheVariants.{Late}
use Rattle.mail_base.specs.declared.token.Token.{Token}
use Rattle.rule_match.specs.declared.cuts.Cut.{Cut}
use Rattle.rule_match.specs.Choices.{Fits}
use Rattle.rule_match.specs.Kept.{kept_cuts}
use Rattle.rule_match.specs.Wants.{wants}
use Rattle.ruleset_run.specs.declared.fault.RunFault.{RunFault}
use Rattle.ruleset_run.specs.declared.fault.RunFault.TheVariants as faults
use Rattle.ruleset_run.specs.declared.parts.Parts.{Parts}
use Rattle.ruleset_run.specs.Sites.{Macros}
use Rattle.ruleset_run.specs.Filling.{Part, OneToken, OneCall, Matched, Told, Filling, put, tokens_in}

-- the cuts are those of a match of a left side, whatever its classes are
pub record IsCutAs (left : List Item) (tokens : List Token) (cuts : List Cut)
    (found : Matched) : Type 0 where
  pub left_is : found.left ≡ left
  pub tokens_are : found.tokens ≡ tokens
  pub classes : Classes
  pub late : List (List Token)
  pub fits : Fits (wants classes late left) tokens found.lengths
  pub kept : cuts ≡ kept_cuts left 0 found.lengths

-- a piece other than `$&x`
abbrev pub is_plain : Piece → Bool
is_plain (Late name) = false
is_plain piece = true

-- the parts that stand up to each call and with it, and those behind the last
abbrev pub fronts_parts : List (List Token) → List Part
fronts_parts [] = []
fronts_parts (front ∷ fronts) = map OneToken front ++ OneCall ∷ fronts_parts fronts

abbrev pub parts_of : List (List Token) → List Token → List Part
parts_of fronts last = fronts_parts fronts ++ map OneToken last

abbrev pub StandBy : Bool → List (List Token) → List Token → ℕ → List Part → Type 0
StandBy true fronts last count given = 2000 < tokens_in given
StandBy false fronts last count given = (parts_of fronts last ≡ given)
    × (count ≡ tokens_in (fronts_parts fronts)) × (tokens_in given ≤ 2000)

-- the parts are kept, or they have too many tokens
abbrev pub Stand : Parts → List Part → Type 0
Stand parts given = StandBy parts.is_long parts.fronts parts.last parts.count given

-- parts were added at the end
abbrev pub Gain : Parts → Parts → List Part → Type 0
Gain old new added = (given : List Part) → Stand old given → Stand new (given ++ added)

abbrev pub LooksFault : RunFault → Result Told RunFault → Type 0
LooksFault faults.NoMemory told = Unit {0}
LooksFault fault told = told ≡ Err fault

-- what a look-up gave, with these macros after it
abbrev pub Looks : Result (List Token) RunFault → Macros → Result Told RunFault → Type 0
Looks (Ok tokens) macros told = told ≡ Ok (record { tokens = tokens; macros = macros })
Looks (Err fault) macros told = LooksFault fault told

abbrev pub FillsFault : RunFault → Filling → Type 0
FillsFault faults.NoMemory filling = Unit {0}
FillsFault fault filling = filling ≡ Err fault

-- the parts are those of a right side that was filled, with these macros after it
abbrev pub Fills : Result Parts RunFault → Macros → Filling → Type 0
Fills (Ok parts) macros filling = (given : List Part) × Stand parts given
    × (filling ≡ Ok (record { parts = given; macros = macros }))
Fills (Err fault) macros filling = FillsFault fault filling

abbrev pub StepFault : RunFault → (Filling → Type 0) → Type 0
StepFault faults.NoMemory P = Unit {0}
StepFault fault P = P (Err fault)

-- a step has added parts, which stand before whatever the steps after it give
abbrev pub StepFills : (List Step → Macros → Filling) → Step → Parts → Macros → Parts → Macros
    → Result (Unit {0}) RunFault → Type 0
StepFills fill step old before new after (Ok _) =
    (added : List Part) × Gain old new added
    × ((more : List Step) → fill (step ∷ more) before ≡ put added (fill more after))
StepFills fill step old before new after (Err fault) =
    StepFault fault (λ filling. (more : List Step) → fill (step ∷ more) before ≡ filling)
