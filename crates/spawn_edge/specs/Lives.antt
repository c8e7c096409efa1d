-- How long the children of a spawner in memory run, and how they end (own).
use Rattle.std.specs.Prelude.{ℕ, ◌+◌, ◌-◌, ℤ, pos, List, Bool, true, false, nat_eq, nat_lt, count_by, if◌then◌else◌, Option, Some, None, slice_get}
use Rattle.spawn_edge.specs.declared.event.Poll.TheVariants.{Runs, Over, Lost}
use Rattle.spawn_edge.specs.declared.event.SpawnEvent.{SpawnEvent}
use Rattle.spawn_edge.specs.declared.event.SpawnEvent.TheVariants.{Began, Unbegun, Polled}
use Rattle.spawn_edge.specs.declared.life.Life.{Life}
use Rattle.spawn_edge.specs.Spawned.{Spawned}

-- whether an event starts a child
abbrev pub is_beginning : SpawnEvent → Bool
is_beginning (Began start child missed) = true
is_beginning (Unbegun start missed) = false
is_beginning (Polled child poll) = false

-- the number of the next child: they are counted from 1
abbrev pub next_child : List SpawnEvent → ℕ
next_child history = count_by is_beginning history + 1

-- whether an event is a poll that found that child running
abbrev pub finds_running : ℕ → SpawnEvent → Bool
finds_running child (Began start other missed) = false
finds_running child (Unbegun start missed) = false
finds_running child (Polled other Runs) = nat_eq other child
finds_running child (Polled other (Over status)) = false
finds_running child (Polled other Lost) = false

-- what a poll finds of a child with that life, behind so many that found it running
abbrev pub status_in : Option Life → ℕ → Option ℤ
status_in (Some life) polls = if nat_lt polls life.polls then None else Some life.status
status_in None polls = Some (pos 0)

-- what a poll of a child finds: the first child has the first life, and so on; those behind the
-- last have ended with the status 0
abbrev pub status_at : List Life → List SpawnEvent → ℕ → Option ℤ
status_at lives history child =
    status_in (slice_get lives (child - 1)) (count_by (finds_running child) history)

-- what is seen of the spawner
abbrev pub script_spawned : List SpawnEvent → ℕ → ℕ → Spawned
script_spawned told missed faults = record { told = Some told; missed = missed; faults = faults }
