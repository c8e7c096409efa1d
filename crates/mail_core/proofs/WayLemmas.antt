-- What is done where a turn goes on, or doesn't.
use Rattle.mail_core.specs.Machine.{Way, GoesOn, Leaves, Over, Did, goes_on}

module _ (P : Did → Type 0) where
  -- what held and goes on to hold holds, whether it goes on or not
  pub goes_keeps : (way : Way) (d e : Did) → P d → P e → P (goes_on way d e)
  goes_keeps GoesOn d e h k = k
  goes_keeps Leaves d e h k = h
  goes_keeps (Over finish) d e h k = h
