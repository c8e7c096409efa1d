-- What a run of the set `queuegroup` says. It need not be believed: only private contracts cite it.
use Rattle.std.specs.Prelude.{ℕ, List, Option, None, Ok, Err}
use Rattle.mail_base.specs.declared.token.Token.{Token}
use Rattle.ruleset_run.specs.declared.fault.RunFault.{RunFault}
use Rattle.ruleset_run.specs.Runs.{Done, RunsSet}
use Rattle.ruleset_run.specs.Sites.{Macros, Site}
use Rattle.queue_plan.specs.Groups.{name_said}

-- what a run over tokens says, which says nothing where it fails
pub data Runs (site : Site) (macros : Macros) (set : List ℕ) (tokens : List Token)
    : Option (List ℕ) → Type 0 where
  fails : (fault : RunFault) → RunsSet site macros set tokens (Err fault)
      → Runs site macros set tokens None
  ends : (done : Done) → RunsSet site macros set tokens (Ok done)
      → Runs site macros set tokens (name_said done.tokens)
