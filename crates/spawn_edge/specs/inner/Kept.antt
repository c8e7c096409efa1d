-- What a spawner in memory keeps beside its history, so that what can't fail is still told. It need
-- not be believed: no public contract cites it.
use Rattle.std.specs.Prelude.{◌≡◌, ◌≤◌, ◌<◌, ◌+◌, ℕ, ℤ, List, length, count_by, Option, Some, None}
use Rattle.spawn_edge.specs.declared.event.Poll.{Poll}
use Rattle.spawn_edge.specs.declared.event.Poll.TheVariants.{Over, Lost}
use Rattle.spawn_edge.specs.declared.event.SpawnEvent.{SpawnEvent}
use Rattle.spawn_edge.specs.Children.{begins, running_in}
use Rattle.spawn_edge.specs.Lives.{is_beginning}

-- the poll with which a child is over: it has a status, or is lost
abbrev pub end_of : Option ℤ → Poll
end_of (Some status) = Over status
end_of None = Lost

-- the children that run stand beside the history, with how many were started; numbers above that
-- weren't given; and there is room for the end of each child that runs
pub record IsKept (told : List SpawnEvent) (running : List ℕ) (given capacity : ℕ) : Type 0 where
  pub running_is : running ≡ running_in told
  pub given_is : given ≡ count_by is_beginning told
  pub unused : (child : ℕ) → given < child → count_by (begins child) told ≡ 0
  pub room : length told + length running ≤ capacity
