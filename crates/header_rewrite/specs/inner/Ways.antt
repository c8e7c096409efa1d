-- Rulesets in order, and what they read.
use Rattle.std.specs.Prelude.{ℕ, List}
use Rattle.ruleset_run.specs.Sites.{Site, Macros}

pub record Way : Type 0 where
  pub site : Site
  pub macros : Macros
  pub sets : List (List ℕ)
