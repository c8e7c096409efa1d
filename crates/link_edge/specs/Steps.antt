-- What the turns of a floor in memory bring of its steps (own).
use Rattle.std.specs.Prelude.{◌≡◌, ℕ, List, [], ◌∷◌, ◌++◌, length, take, drop, Some, Bool, false, not, ◌&&◌, nat_eq, nat_le, nat_lt, count_by, if◌then◌else◌}
use Rattle.std.specs.List.{list_any}
use Rattle.link_edge.specs.declared.event.Event.TheVariants.{Opens, Brings, Closes, Rests, Stops}
use Rattle.link_edge.specs.declared.event.FloorEvent.{FloorEvent}
use Rattle.link_edge.specs.declared.event.FloorEvent.TheVariants.{Took, Sent, Unsent, HungUp}
use Rattle.link_edge.specs.declared.step.Step.{Step}
use Rattle.link_edge.specs.declared.step.Step.TheVariants.{Open, Say, Close, Rest}
use Rattle.link_edge.specs.Begins.{Beginnings}
use Rattle.link_edge.specs.Heard.{Heard}
use Rattle.link_edge.specs.Sessions.{Follows, is_open, is_sound}
use Rattle.link_edge.specs.Turns.{Fits, told_of}
use Rattle.link_edge.specs.declared.turn.Turn.{Turn}
use Rattle.link_edge.specs.Tellings.{next_number}

-- whether these bytes are the address of a peer
abbrev pub is_peer : List ℕ → Bool
is_peer bytes = nat_le (length bytes) 64 && not (list_any (λ byte. nat_eq byte 10) bytes)

-- whether bytes can come of a session
abbrev pub can_come : List FloorEvent → ℕ → List ℕ → Bool
can_come told session bytes = is_sound session told && nat_lt 0 (length bytes)

-- what the turn of a step tells, at a buffer of that size: what can't be, as bytes of a session
-- that isn't open, is an idle turn
abbrev pub step_event : List FloorEvent → ℕ → Step → FloorEvent
step_event told room (Open peer) =
    if is_peer peer then Took (Opens (next_number told) peer) else Took Rests
step_event told room (Say session bytes) =
    if can_come told session bytes then Took (Brings session (take room bytes)) else Took Rests
step_event told room (Close session) =
    if is_open session told then Took (Closes session) else Took Rests
step_event told room Rest = Took Rests

-- a turn is told as this event, and fits and follows
pub record IsHeard (old new : List FloorEvent) (event : FloorEvent) (turn : Turn)
    (buf : List ℕ) : Type 0 where
  pub event_is : told_of turn buf ≡ event
  pub told : new ≡ old ++ event ∷ []
  pub fits : Fits turn buf
  pub follows : Follows old event

-- what is left of a step after its turn: the bytes that the buffer had no room for
abbrev pub step_rest : List FloorEvent → ℕ → Step → List Step
step_rest told room (Open peer) = []
step_rest told room (Say session bytes) =
    if is_sound session told && nat_lt room (length bytes)
    then Say session (drop room bytes) ∷ [] else []
step_rest told room (Close session) = []
step_rest told room Rest = []

-- what a turn tells; after the last step nothing comes any more
abbrev pub next_event : List FloorEvent → ℕ → List Step → FloorEvent
next_event told room [] = Took Stops
next_event told room (step ∷ steps) = step_event told room step

-- the steps that are left after a turn
abbrev pub later_steps : List FloorEvent → ℕ → List Step → List Step
later_steps told room [] = []
later_steps told room (step ∷ steps) = step_rest told room step ++ steps

-- a step without the first bytes that came of it
abbrev pub without_said : ℕ → Step → Step
without_said count (Open peer) = Open peer
without_said count (Say session bytes) = Say session (drop count bytes)
without_said count (Close session) = Close session
without_said count Rest = Rest

-- steps without the first bytes that came of the first
abbrev pub unsaid : ℕ → List Step → List Step
unsaid count [] = []
unsaid count (step ∷ steps) = without_said count step ∷ steps

-- whether a send to that session failed
abbrev pub is_unsent : ℕ → FloorEvent → Bool
is_unsent session (Took event) = false
is_unsent session (Sent other bytes) = false
is_unsent session (Unsent other) = nat_eq other session
is_unsent session (HungUp other) = false

-- the count of a session: how many sends to it failed
abbrev pub session_count : List FloorEvent → ℕ → ℕ
session_count told session = count_by (is_unsent session) told

-- what is seen of the floor
abbrev pub script_heard : List FloorEvent → Beginnings → ℕ → Heard
script_heard told begun faults =
    record { told = Some told; begun = begun; faults = faults; session_faults = session_count told }
