-- What a dialer in memory reads, and the numbers of its lines (own).
use Rattle.std.specs.Prelude.{◌+◌, ℕ, List, [], ◌∷◌, ◌++◌, take, drop, length, Some, Bool, true, false, nat_lt, count_by, if◌then◌else◌}
use Rattle.link_edge.specs.declared.dial_event.DialEvent.{DialEvent}
use Rattle.link_edge.specs.declared.dial_event.DialEvent.TheVariants.{Dialled, Undialled, Read, Unread, Wrote, Unwritten, Closed}
use Rattle.link_edge.specs.Dials.{DialSeen}

-- the bytes that a read finds, at a buffer of that size: those of the next piece; none are an end,
-- and so is each read behind the last piece
abbrev pub next_bytes : ℕ → List (List ℕ) → List ℕ
next_bytes room [] = []
next_bytes room (piece ∷ pieces) = take room piece

-- what is left of a piece after a read: the bytes that the buffer had no room for
abbrev pub piece_rest : ℕ → List ℕ → List (List ℕ)
piece_rest room piece = if nat_lt room (length piece) then drop room piece ∷ [] else []

-- the pieces that are left after a read
abbrev pub later_pieces : ℕ → List (List ℕ) → List (List ℕ)
later_pieces room [] = []
later_pieces room (piece ∷ pieces) = piece_rest room piece ++ pieces

-- pieces without the first bytes of the first, which were read
abbrev pub without_read : ℕ → List (List ℕ) → List (List ℕ)
without_read count [] = []
without_read count (piece ∷ pieces) = drop count piece ∷ pieces

-- whether an event is a dial that gave a line
abbrev pub is_dialled : DialEvent → Bool
is_dialled (Dialled peer line missed) = true
is_dialled (Undialled peer missed) = false
is_dialled (Read line bytes) = false
is_dialled (Unread line) = false
is_dialled (Wrote line bytes) = false
is_dialled (Unwritten line) = false
is_dialled (Closed line) = false

-- the number of the next line: they are counted from 1
abbrev pub next_line : List DialEvent → ℕ
next_line history = count_by is_dialled history + 1

-- what is seen of the dialer
abbrev pub script_dials : List DialEvent → ℕ → ℕ → DialSeen
script_dials told missed faults = record { told = Some told; missed = missed; faults = faults }
