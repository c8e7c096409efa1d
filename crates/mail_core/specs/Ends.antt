-- How a run ends (own).
use Rattle.std.specs.Prelude.{◌≡◌, ℕ, List, [], ◌∷◌, ◌++◌, length, Some, Result}
use Rattle.mail_core.specs.declared.act.Act.{Act}
use Rattle.mail_core.specs.declared.serving.CoreStop.{CoreStop}
use Rattle.mail_core.specs.Beginning.{Start, run_over}
use Rattle.mail_core.specs.Causes.{EndsSo, ending_of, is_well}
use Rattle.mail_core.specs.Judges.{JudgeSeen}
use Rattle.mail_core.specs.Machine.{Turn}
use Rattle.mail_core.specs.Runs.{Headline}
use Rattle.mail_core.specs.Seen.{Seen}
use Rattle.mail_core.specs.Sites.{Site}
use Rattle.mail_core.specs.States.{Ending}

-- a run of so many turns, of which the last ended it so, and for its cause
pub record IsEnded (j : JudgeSeen) (site : Site) (start : Start) (count : ℕ) (a b : Seen)
    (went : Result Act CoreStop) : Type 0 where
  pub turns : List Turn
  pub before : List Turn
  pub last : Turn
  pub whole : turns ≡ before ++ last ∷ []
  pub events : length turns ≡ count
  pub headline : Headline j site start turns a b (is_well went)
  pub ended : (ending : Ending) → ending_of went ≡ Some ending
      → EndsSo ending (run_over site start turns).state a b
