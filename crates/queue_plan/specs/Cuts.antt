-- The parts of rows by the groups that the configuration gives them (Sendmail Installation and
-- Operation Guide, "Queue Groups").
use Rattle.std.specs.Prelude.{◌≡◌, ℕ, ◌<◌, ◌≤◌, List, [], All, length, refl}
use Rattle.std.specs.List.{AllZip}
use Rattle.mail_base.specs.Configs.{initial}
use Rattle.mail_base.specs.Limits.{most_rows}
use Rattle.mail_base.specs.declared.config.Config.{Config}
use Rattle.mail_base.specs.declared.draw.Draw.{Draw}
use Rattle.mail_base.specs.declared.message.Cut.{Cut}
use Rattle.map_tables.specs.Answers.{Loaded}
use Rattle.ruleset_run.specs.Sites.{Macros}
use Rattle.queue_plan.specs.Groups.{Groups, mailer_of}
use Rattle.queue_plan.specs.Parts.{IsPart, parts_of}

-- each of these rows goes to the group at its place
abbrev pub AreGrouped : Config → Loaded → Macros → List Draw → List (List ℕ) → Type 0
AreGrouped config maps macros rows groups =
    AllZip (λ row group. Groups config maps macros row.address (mailer_of row.resolved) group) rows
    groups

-- the parts of rows, by their senders and their queue groups
pub record AreParts (config : Config) (maps : Loaded) (macros : Macros) (rows : List Draw)
    (cuts : List Cut) : Type 0 where
  pub groups : List (List ℕ)
  pub grouped : AreGrouped config maps macros rows groups
  pub are : cuts ≡ parts_of config rows groups

-- parts that may become entries, as many as an entry may have rows at most
pub record AreForms (cuts : List Cut) : Type 0 where
  pub some : 0 < length cuts
  pub few : length cuts ≤ most_rows
  pub each : All IsPart cuts

example : parts_of initial [] [] ≡ []
example = refl
