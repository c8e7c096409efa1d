-- The lines of a history of a dialer, and which event may follow it (own).
use Rattle.std.specs.Prelude.{◌≡◌, ◌≤◌, ℕ, List, [], ◌∷◌, ◌++◌, take, Bool, true, false, nat_eq, fold, count_by, if◌then◌else◌, Result, Ok, Err}
use Rattle.mail_base.specs.declared.fault.Failed.{Failed}
use Rattle.link_edge.specs.declared.dial_event.DialEvent.{DialEvent}
use Rattle.link_edge.specs.declared.dial_event.DialEvent.TheVariants.{Dialled, Undialled, Read, Unread, Wrote, Unwritten, Closed}
use Rattle.link_edge.specs.declared.peer.Peer.{Peer}
use Rattle.link_edge.specs.Sessions.{is_among, without}

-- the open lines after one event more: a dial adds one, its close takes it away
abbrev pub open_after : List ℕ → DialEvent → List ℕ
open_after lines (Dialled peer line missed) = lines ++ line ∷ []
open_after lines (Undialled peer missed) = lines
open_after lines (Read line bytes) = lines
open_after lines (Unread line) = lines
open_after lines (Wrote line bytes) = lines
open_after lines (Unwritten line) = lines
open_after lines (Closed line) = without line lines

-- the same of the open lines of which no read and no write has failed
abbrev pub sound_after : List ℕ → DialEvent → List ℕ
sound_after lines (Dialled peer line missed) = lines ++ line ∷ []
sound_after lines (Undialled peer missed) = lines
sound_after lines (Read line bytes) = lines
sound_after lines (Unread line) = without line lines
sound_after lines (Wrote line bytes) = lines
sound_after lines (Unwritten line) = without line lines
sound_after lines (Closed line) = without line lines

-- the lines that are open after a history
abbrev pub open_in : List DialEvent → List ℕ
open_in history = fold open_after [] history

-- those of them of which no read and no write has failed
abbrev pub sound_in : List DialEvent → List ℕ
sound_in history = fold sound_after [] history

-- whether a line is open
abbrev pub is_open : ℕ → List DialEvent → Bool
is_open line history = is_among line (open_in history)

-- whether a line is open, and no read and no write of it has failed
abbrev pub is_sound : ℕ → List DialEvent → Bool
is_sound line history = is_among line (sound_in history)

-- whether an event gives that number to a line
abbrev pub gives : ℕ → DialEvent → Bool
gives line (Dialled peer other missed) = nat_eq other line
gives line (Undialled peer missed) = false
gives line (Read other bytes) = false
gives line (Unread other) = false
gives line (Wrote other bytes) = false
gives line (Unwritten other) = false
gives line (Closed other) = false

-- whether an event makes that line unsound: a failed read or write of it, or its close
abbrev pub spoils : ℕ → DialEvent → Bool
spoils line (Dialled peer other missed) = false
spoils line (Undialled peer missed) = false
spoils line (Read other bytes) = false
spoils line (Unread other) = nat_eq other line
spoils line (Wrote other bytes) = false
spoils line (Unwritten other) = nat_eq other line
spoils line (Closed other) = nat_eq other line

-- no number of a line is given twice
abbrev pub NumbersOnce : List DialEvent → Type 0
NumbersOnce history = (line : ℕ) → count_by (gives line) history ≤ 1

-- an event that may stand behind a history: a dial gives a number that wasn't given, a read or a
-- write is of an open line of which none has failed, and a close of an open line
abbrev pub Follows : List DialEvent → DialEvent → Type 0
Follows history (Dialled peer line missed) = count_by (gives line) history ≡ 0
Follows history (Undialled peer missed) = Unit {0}
Follows history (Read line bytes) = is_sound line history ≡ true
Follows history (Unread line) = is_sound line history ≡ true
Follows history (Wrote line bytes) = is_sound line history ≡ true
Follows history (Unwritten line) = is_sound line history ≡ true
Follows history (Closed line) = is_open line history ≡ true

-- events that may stand behind a history, each behind those before it
abbrev pub AllFollow : List DialEvent → List DialEvent → Type 0
AllFollow history [] = Unit {0}
AllFollow history (event ∷ events) =
    Follows history event × AllFollow (history ++ event ∷ []) events

-- what a dial tells, by how many were missed before it and how many are behind it: a failed one
-- that isn't among those that are missed is told with its peer
abbrev pub dial_events : Peer → ℕ → ℕ → Result ℕ Failed → List DialEvent
dial_events peer missed now (Ok line) = Dialled peer line missed ∷ []
dial_events peer missed now (Err fault) =
    if nat_eq now 0 then Undialled peer missed ∷ [] else []

-- a read is told with its bytes
abbrev pub read_event : ℕ → Result ℕ Failed → List ℕ → DialEvent
read_event line (Ok count) buf = Read line (take count buf)
read_event line (Err fault) buf = Unread line

-- a write, and whether all of it was written
abbrev pub write_event : ℕ → List ℕ → Bool → DialEvent
write_event line bytes whole = if whole then Wrote line bytes else Unwritten line
