-- What is seen of a floor (own).
use Rattle.std.specs.Prelude.{◌≡◌, ℕ, List, Option, IfSome, true}
use Rattle.link_edge.specs.declared.event.FloorEvent.{FloorEvent}
use Rattle.link_edge.specs.Begins.{Beginnings}
use Rattle.link_edge.specs.Sessions.{is_open, is_sound}

-- what happened so far, in order, where that is told; how it was begun, which every floor tells;
-- how often begin and turn failed; and for each session how often a send to it failed
pub record Heard : Type 0 where
  pub told : Option (List FloorEvent)
  pub begun : Beginnings
  pub faults : ℕ
  pub session_faults : ℕ → ℕ

-- the counts of all sessions are as before
abbrev pub KeepsCounts : Heard → Heard → Type 0
KeepsCounts old new = (session : ℕ) → new.session_faults session ≡ old.session_faults session

-- where the floor tells, that session is open
abbrev pub IsOpenAt : Heard → ℕ → Type 0
IsOpenAt floor session = IfSome floor.told (λ history. is_open session history ≡ true)

-- where the floor tells, that session is open and no send to it has failed
abbrev pub IsSoundAt : Heard → ℕ → Type 0
IsSoundAt floor session = IfSome floor.told (λ history. is_sound session history ≡ true)
