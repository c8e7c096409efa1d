-- What the runs of a configuration's rulesets read.
use Rattle.std.specs.Prelude.{ℕ, List}
use Rattle.mail_base.specs.declared.classes.Classes.{Classes}
use Rattle.mail_base.specs.declared.config.Config.{Config}
use Rattle.mail_base.specs.declared.rule.RuleSet.{RuleSet}
use Rattle.map_tables.specs.Answers.{Loaded}

-- the rulesets, the classes, the bytes that are operators, and the maps
pub record Site : Type 0 where
  pub book : List RuleSet
  pub classes : Classes
  pub operators : List ℕ
  pub maps : Loaded

-- names and values
abbrev pub Macros : Type 0
Macros = List (List ℕ × List ℕ)

abbrev pub site_of : Config → Loaded → Site
site_of config maps = record {
  book = config.book;
  classes = config.classes;
  operators = config.options.operator_chars;
  maps = maps;
}
