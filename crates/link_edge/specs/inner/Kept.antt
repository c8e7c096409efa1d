-- What a floor in memory keeps beside its history, so that what can't fail is still told. It need
-- not be believed: no public contract cites it.
use Rattle.std.specs.Prelude.{Bool, true, false, ◌≡◌, ◌≤◌, ◌<◌, ◌+◌, ℕ, List, length, count_by}
use Rattle.link_edge.specs.declared.event.Event.TheVariants.{Opens, Brings, Closes, Rests, Stops}
use Rattle.link_edge.specs.declared.event.FloorEvent.{FloorEvent}
use Rattle.link_edge.specs.declared.event.FloorEvent.TheVariants.{Took, Sent, Unsent, HungUp}
use Rattle.link_edge.specs.Sessions.{open_in, sound_in, opens}
use Rattle.link_edge.specs.Tellings.{is_opening}

-- whether an event leaves each session as it is
abbrev pub is_quiet : FloorEvent → Bool
is_quiet (Took (Opens session peer)) = false
is_quiet (Took (Brings session bytes)) = true
is_quiet (Took (Closes session)) = false
is_quiet (Took Rests) = true
is_quiet (Took Stops) = true
is_quiet (Sent session bytes) = true
is_quiet (Unsent session) = false
is_quiet (HungUp session) = false

-- the open sessions and the sound ones stand beside the history, with how many were opened; numbers
-- above that weren't used; and there is room for a hang-up of each open session and a failed send
-- to each sound one
pub record IsKept (told : List FloorEvent) (live sound : List ℕ)
    (opened capacity : ℕ) : Type 0 where
  pub live_is : live ≡ open_in told
  pub sound_is : sound ≡ sound_in told
  pub opened_is : opened ≡ count_by is_opening told
  pub unused : (session : ℕ) → opened < session → count_by (opens session) told ≡ 0
  pub room : length told + length live + length sound ≤ capacity
