-- What is seen of a dialer (own).
use Rattle.std.specs.Prelude.{◌≡◌, ◌<◌, ℕ, List, Option, IfSome, Result, Ok, Err, true}
use Rattle.mail_base.specs.Scripts.{one_more}
use Rattle.mail_base.specs.declared.fault.Failed.{Failed}
use Rattle.link_edge.specs.declared.dial_event.DialEvent.{DialEvent}
use Rattle.link_edge.specs.Lines.{is_open, is_sound}

-- what happened so far, in order, where that is told; how many dials failed untold since the last
-- dial that was told; and how often a call failed
pub record DialSeen : Type 0 where
  pub told : Option (List DialEvent)
  pub missed : ℕ
  pub faults : ℕ

-- how many dials are missed after one more: none behind one that is told, else one more
abbrev pub KeepsMissed : ℕ → ℕ → Result ℕ Failed → Type 0
KeepsMissed before now (Ok line) = now ≡ 0
KeepsMissed before now (Err fault) = 0 < now → now ≡ one_more before

-- where the dialer tells, that line is open
abbrev pub IsOpenAt : DialSeen → ℕ → Type 0
IsOpenAt dialer line = IfSome dialer.told (λ history. is_open line history ≡ true)

-- where the dialer tells, that line is open, and no read and no write of it has failed
abbrev pub IsSoundAt : DialSeen → ℕ → Type 0
IsSoundAt dialer line = IfSome dialer.told (λ history. is_sound line history ≡ true)
