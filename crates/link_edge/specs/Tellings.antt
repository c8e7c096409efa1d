-- The numbers of the sessions of a floor in memory (own).
use Rattle.std.specs.Prelude.{◌+◌, ℕ, List, Bool, true, false, count_by}
use Rattle.link_edge.specs.declared.event.Event.TheVariants.{Opens, Brings, Closes, Rests, Stops}
use Rattle.link_edge.specs.declared.event.FloorEvent.{FloorEvent}
use Rattle.link_edge.specs.declared.event.FloorEvent.TheVariants.{Took, Sent, Unsent, HungUp}

-- whether an event opens a session
abbrev pub is_opening : FloorEvent → Bool
is_opening (Took (Opens session peer)) = true
is_opening (Took (Brings session bytes)) = false
is_opening (Took (Closes session)) = false
is_opening (Took Rests) = false
is_opening (Took Stops) = false
is_opening (Sent session bytes) = false
is_opening (Unsent session) = false
is_opening (HungUp session) = false

-- the number of the next session: they are counted from 1
abbrev pub next_number : List FloorEvent → ℕ
next_number history = count_by is_opening history + 1
