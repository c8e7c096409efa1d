-- The macros of a run, as it keeps them.
use Rattle.std.specs.Prelude.{◌≡◌, ℕ, List, Option, Some, None}
use Rattle.mail_base.specs.declared.token.Token.{Token}
use Rattle.mail_base.specs.Catalogs.{value_at, with_value, without_name}
use Rattle.ruleset_run.specs.declared.values.Change.{Change}
use Rattle.ruleset_run.specs.Sites.{Macros}
use Rattle.ruleset_run.specs.Cutting.{Lates, late_tokens}

-- the operators, the macros by which texts are put in, and those after what look-ups have changed
-- since
pub record Known : Type 0 where
  pub operators : List ℕ
  pub macros : Macros
  pub after : Macros

-- what each `$&x` stands for
abbrev pub lates : Known → Lates
lates known = late_tokens known.operators known.macros

-- the macros that were changed, or else those that were given
abbrev pub current : Macros → Option Macros → Macros
current base None = base
current base (Some macros) = macros

-- a macro is set, or unset where there is no value
abbrev pub with_new : List ℕ → Option (List ℕ) → Macros → Macros
with_new name None macros = without_name name macros
with_new name (Some value) macros = with_value name value macros

abbrev pub with_change : Macros → Change → Macros
with_change macros change = with_new change.name change.value macros

-- what was cut is what the macros stand for
abbrev pub AreCuts : List ℕ → Macros → List (List ℕ × Option (List Token)) → Type 0
AreCuts operators macros cuts = (name : List ℕ) (tokens : Option (List Token))
    → value_at name cuts ≡ Some tokens → tokens ≡ late_tokens operators macros name
