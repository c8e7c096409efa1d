-- What address test mode prints (Sendmail Installation and Operation Guide, "Address Testing Mode";
-- the warnings are own).
use Rattle.std.specs.Prelude.{◌≡◌, ℕ, List, ◌++◌, codes}
use Rattle.std.specs.Fmt.{decimal}
use Rattle.std.specs.List.{flat_map}
use Rattle.addr_test.specs.Printing.{Printed}
use Rattle.addr_test.specs.Texts.{line_of}
use Rattle.mail_base.specs.declared.config.Config.{Config}
use Rattle.map_tables.specs.Answers.{Loaded}

-- the line that tells of a line of the configuration that is ignored
unfoldable pub warning_text : ℕ → List ℕ
warning_text number = line_of (codes "warning: line " ++ decimal number ++ codes " ignored")

abbrev pub warnings_text : List ℕ → List ℕ
warnings_text numbers = flat_map warning_text numbers

-- what lines are answered by: the configuration, and its maps as they are loaded
pub record Basis : Type 0 where
  pub config : Config
  pub maps : Loaded

abbrev pub basis : Config → Loaded → Basis
basis config maps = record { config = config; maps = maps }

-- what is printed for lines of input: the warnings of the configuration first, and then the
-- answers, the first under that configuration
abbrev pub Prints : Basis → List (List ℕ) → List ℕ → Type 0
Prints basis lines text = (answers : List ℕ) × (last : Config)
    × Printed basis.maps basis.config lines answers last
    × (text ≡ warnings_text basis.config.warnings ++ answers)
