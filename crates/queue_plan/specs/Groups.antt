-- The queue group of a row (Sendmail Installation and Operation Guide, "Queue Groups" and M: Define
-- Mailer, its field Q; cf/README, the ruleset queuegroup).
use Rattle.std.specs.Prelude.{◌≡◌, ◌⊎◌, ℕ, List, [], ◌∷◌, ◌++◌, Bool, true, not, ◌&&◌, ◌==◌, Option, None, Some, Ok, Err, codes, is_some, option_to_list, refl, unwrap_or}
use Rattle.std.specs.List.{find, flat_map, list_any}
use Rattle.mail_base.specs.Catalogs.{value_at, value_like}
use Rattle.mail_base.specs.Configs.{initial}
use Rattle.mail_base.specs.Rulesets.{is_named}
use Rattle.mail_base.specs.declared.config.Config.{Config}
use Rattle.mail_base.specs.declared.mailer.Mailer.{Mailer}
use Rattle.mail_base.specs.declared.route.Resolved.{Resolved}
use Rattle.mail_base.specs.declared.route.Resolved.TheVariants.{Goes, Refuses}
use Rattle.mail_base.specs.declared.rule.RuleSet.{RuleSet}
use Rattle.mail_base.specs.declared.token.Mark.TheVariants as mark
use Rattle.mail_base.specs.declared.token.Token.{Token}
use Rattle.mail_base.specs.declared.token.Token.TheVariants.{Op, Sign, Word}
use Rattle.addr_tokens.specs.Joins.{token_bytes}
use Rattle.addr_tokens.specs.Reader.{cut}
use Rattle.map_tables.specs.Answers.{Loaded}
use Rattle.ruleset_run.specs.declared.fault.RunFault.{RunFault}
use Rattle.ruleset_run.specs.Runs.{Done, RunsSet}
use Rattle.ruleset_run.specs.Sites.{Macros, Site, site_of}

-- ---- what the set `queuegroup` says

abbrev pub set_name : List ℕ
set_name = codes "queuegroup"

-- the name that a list says: the bytes of the tokens behind `$#`, which begins it
abbrev pub name_said : List Token → Option (List ℕ)
name_said (Sign mark.Mailer ∷ tokens) = Some (flat_map token_bytes tokens)
name_said tokens = None

-- what the set answers to an address, in which angles are checked: an address that can't be cut and
-- a run that fails say nothing
pub data Answers (site : Site) (macros : Macros) (address : List ℕ) : Option (List ℕ) → Type 0 where
  no_tokens : cut site.operators true address ≡ None → Answers site macros address None
  run_fails : (tokens : List Token) (fault : RunFault)
      → cut site.operators true address ≡ Some tokens
      → RunsSet site macros set_name tokens (Err fault) → Answers site macros address None
  answers : (tokens : List Token) (done : Done) → cut site.operators true address ≡ Some tokens
      → RunsSet site macros set_name tokens (Ok done)
      → Answers site macros address (name_said done.tokens)

-- the set is asked where an S line names it
pub data Says (site : Site) (macros : Macros) (address : List ℕ) : Option (List ℕ) → Type 0 where
  unasked : find (is_named set_name) site.book ≡ None → Says site macros address None
  asked : (rules : RuleSet) (said : Option (List ℕ))
      → find (is_named set_name) site.book ≡ Some rules → Answers site macros address said
      → Says site macros address said

-- ---- the group

-- the name of the group that is there from the start
abbrev pub main_group_name : List ℕ
main_group_name = codes "mqueue"

-- a name is on one line: no other can stand in the text of an entry
abbrev pub is_one_line : List ℕ → Bool
is_one_line name = not (list_any (λ byte. byte == 10) name)

-- the name of a group that an entry may have
abbrev pub is_group : Config → List ℕ → Bool
is_group config name = is_one_line name && is_some (value_at name config.groups)

-- the group of the field Q of a mailer
abbrev pub own_group : Option Mailer → Option (List ℕ)
own_group None = None
own_group (Some mailer) = mailer.group

-- the first of these names that is a group's, or else mqueue
abbrev pub group_by : Config → Option (List ℕ) → Option (List ℕ) → List ℕ
group_by config said own =
    unwrap_or (find (is_group config) (option_to_list said ++ option_to_list own)) main_group_name

-- the group of a row: by what the set says of its address, and else by its mailer
pub data Groups (config : Config) (maps : Loaded) (macros : Macros) (address mailer : List ℕ)
    : List ℕ → Type 0 where
  grouped : (said : Option (List ℕ)) → Says (site_of config maps) macros address said
      → Groups config maps macros address mailer
      (group_by config said (own_group (value_like mailer config.mailers)))

-- the mailer of a row; a row whose route is an error has the empty text
abbrev pub mailer_of : Resolved → List ℕ
mailer_of (Goes triple) = triple.mailer
mailer_of (Refuses error) = []

-- a name that entries may have: mqueue, or that of a group
abbrev pub IsGroupName : Config → List ℕ → Type 0
IsGroupName config name = (name ≡ main_group_name) ⊎ (is_group config name ≡ true)

-- a name of three tokens; a configuration with the group mqueue alone
example : (name_said (Sign mark.Mailer ∷ Word (codes "far") ∷ Op 46 ∷ Word (codes "net") ∷ [])
    ≡ Some (codes "far.net")) × (name_said (Word (codes "far") ∷ []) ≡ None)
    × (group_by initial (Some (codes "far")) (Some (codes "bulk")) ≡ codes "mqueue")
example = (refl, refl, refl)
