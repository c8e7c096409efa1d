-- What a piece of input leaves as it was, even where there was no memory for it.
use Rattle.std.specs.Prelude.{◌≡◌}
use Rattle.mail_submit.specs.declared.held.Held.{Held}
use Rattle.mail_submit.specs.inner.Fronts.{IsFront}

-- bytes stand behind those that were held
pub record IsBehind (old new : Held) : Type 0 where
  pub dot : new.dot ≡ old.dot
  pub front : IsFront old.buffer new.buffer
