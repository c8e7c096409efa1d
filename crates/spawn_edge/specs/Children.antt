-- The children of a history of a spawner, and which event may follow it (own).
use Rattle.std.specs.Prelude.{◌≡◌, ◌≤◌, ℕ, ℤ, List, [], ◌∷◌, ◌++◌, Bool, true, false, not, nat_eq, fold, filter, count_by, if◌then◌else◌, Option, Some, None, Result, Ok, Err}
use Rattle.std.specs.List.{list_any}
use Rattle.mail_base.specs.declared.fault.Failed.{Failed}
use Rattle.spawn_edge.specs.declared.event.Poll.{Poll}
use Rattle.spawn_edge.specs.declared.event.Poll.TheVariants.{Runs, Over, Lost}
use Rattle.spawn_edge.specs.declared.event.Start.{Start}
use Rattle.spawn_edge.specs.declared.event.SpawnEvent.{SpawnEvent}
use Rattle.spawn_edge.specs.declared.event.SpawnEvent.TheVariants.{Began, Unbegun, Polled}

-- those numbers but one
abbrev pub without : ℕ → List ℕ → List ℕ
without child children = filter (λ other. not (nat_eq other child)) children

-- the running children after one event more: a start adds a child, and a poll that finds it over,
-- or that failed, takes it away
abbrev pub running_after : List ℕ → SpawnEvent → List ℕ
running_after children (Began start child missed) = children ++ child ∷ []
running_after children (Unbegun start missed) = children
running_after children (Polled child Runs) = children
running_after children (Polled child (Over status)) = without child children
running_after children (Polled child Lost) = without child children

-- the children that run after a history
abbrev pub running_in : List SpawnEvent → List ℕ
running_in history = fold running_after [] history

-- whether a child is among these
abbrev pub is_among : ℕ → List ℕ → Bool
is_among child children = list_any (λ other. nat_eq other child) children

-- whether a child was given and isn't over
abbrev pub is_running : ℕ → List SpawnEvent → Bool
is_running child history = is_among child (running_in history)

-- whether an event gives that number to a child
abbrev pub begins : ℕ → SpawnEvent → Bool
begins child (Began start other missed) = nat_eq other child
begins child (Unbegun start missed) = false
begins child (Polled other poll) = false

-- whether an event is the end of that child, or its loss
abbrev pub ends : ℕ → SpawnEvent → Bool
ends child (Began start other missed) = false
ends child (Unbegun start missed) = false
ends child (Polled other Runs) = false
ends child (Polled other (Over status)) = nat_eq other child
ends child (Polled other Lost) = nat_eq other child

-- no number of a child is given twice
abbrev pub NumbersOnce : List SpawnEvent → Type 0
NumbersOnce history = (child : ℕ) → count_by (begins child) history ≤ 1

-- an event that may stand behind a history: a start has a number that wasn't given, and a poll is
-- of a child that runs
abbrev pub Follows : List SpawnEvent → SpawnEvent → Type 0
Follows history (Began start child missed) = count_by (begins child) history ≡ 0
Follows history (Unbegun start missed) = Unit {0}
Follows history (Polled child poll) = is_running child history ≡ true

-- events that may stand behind a history, each behind those before it
abbrev pub AllFollow : List SpawnEvent → List SpawnEvent → Type 0
AllFollow history [] = Unit {0}
AllFollow history (event ∷ events) =
    Follows history event × AllFollow (history ++ event ∷ []) events

-- a program with its arguments and its input
abbrev pub start_of : List ℕ → List (List ℕ) → List ℕ → Start
start_of program args input = record { program = program; args = args; input = input }

-- what a start tells, by how many were missed before it and how many are behind it: a failed one
-- that isn't among those that are missed is told with its texts
abbrev pub start_events : List ℕ → List (List ℕ) → List ℕ → ℕ → ℕ → Result ℕ Failed
    → List SpawnEvent
start_events program args input missed now (Ok child) =
    Began (start_of program args input) child missed ∷ []
start_events program args input missed now (Err fault) =
    if nat_eq now 0 then Unbegun (start_of program args input) missed ∷ [] else []

-- what a poll says
abbrev pub poll_of : Result (Option ℤ) Failed → Poll
poll_of (Ok None) = Runs
poll_of (Ok (Some status)) = Over status
poll_of (Err fault) = Lost
