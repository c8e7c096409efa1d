-- What a dialer in memory keeps beside its history, so that what can't fail is still told. It need
-- not be believed: no public contract cites it.
use Rattle.std.specs.Prelude.{Bool, true, false, ◌≡◌, ◌≤◌, ◌<◌, ◌+◌, ℕ, List, length, count_by}
use Rattle.link_edge.specs.declared.dial_event.DialEvent.{DialEvent}
use Rattle.link_edge.specs.declared.dial_event.DialEvent.TheVariants.{Dialled, Undialled, Read, Unread, Wrote, Unwritten, Closed}
use Rattle.link_edge.specs.Lines.{open_in, sound_in, gives}
use Rattle.link_edge.specs.Pieces.{is_dialled}

-- whether an event leaves each line as it is
abbrev pub is_quiet : DialEvent → Bool
is_quiet (Dialled peer line missed) = false
is_quiet (Undialled peer missed) = true
is_quiet (Read line bytes) = true
is_quiet (Unread line) = false
is_quiet (Wrote line bytes) = true
is_quiet (Unwritten line) = false
is_quiet (Closed line) = false

-- the open lines and the sound ones stand beside the history, with how many were given; numbers
-- above that weren't; and there is room for the close of each open line and a failed read or write
-- of each sound one
pub record IsKept (told : List DialEvent) (live sound : List ℕ)
    (given capacity : ℕ) : Type 0 where
  pub live_is : live ≡ open_in told
  pub sound_is : sound ≡ sound_in told
  pub given_is : given ≡ count_by is_dialled told
  pub unused : (line : ℕ) → given < line → count_by (gives line) told ≡ 0
  pub room : length told + length live + length sound ≤ capacity
