-- A turn is answered before the next one (own).
use Rattle.std.specs.Prelude.{◌≡◌, List, [], ◌++◌}
use Rattle.mail_core.specs.Effects.{Effect, events_of}
use Rattle.mail_core.specs.Machine.{Turn, came}

-- what is done at a turn: it is taken, and then no other is
pub record IsAnswer (turn : Turn) (effects : List Effect) : Type 0 where
  pub rest : List Effect
  pub whole : effects ≡ came turn.origin turn.event ++ rest
  pub none : events_of rest ≡ []
