-- The sessions of a history of a floor, and which event may follow it (own).
use Rattle.std.specs.Prelude.{◌≡◌, ◌≤◌, ℕ, List, [], ◌∷◌, ◌++◌, Bool, true, false, not, nat_eq, fold, filter, count_by, if◌then◌else◌}
use Rattle.std.specs.List.{list_any}
use Rattle.link_edge.specs.declared.event.Event.TheVariants.{Opens, Brings, Closes, Rests, Stops}
use Rattle.link_edge.specs.declared.event.FloorEvent.{FloorEvent}
use Rattle.link_edge.specs.declared.event.FloorEvent.TheVariants.{Took, Sent, Unsent, HungUp}

-- those numbers but one
abbrev pub without : ℕ → List ℕ → List ℕ
without session sessions = filter (λ other. not (nat_eq other session)) sessions

-- the open sessions after one event more: an opening adds a session, its end or its hang-up takes
-- it away
abbrev pub open_after : List ℕ → FloorEvent → List ℕ
open_after sessions (Took (Opens session peer)) = sessions ++ session ∷ []
open_after sessions (Took (Brings session bytes)) = sessions
open_after sessions (Took (Closes session)) = without session sessions
open_after sessions (Took Rests) = sessions
open_after sessions (Took Stops) = sessions
open_after sessions (Sent session bytes) = sessions
open_after sessions (Unsent session) = sessions
open_after sessions (HungUp session) = without session sessions

-- the same of the open sessions to which no send has failed
abbrev pub sound_after : List ℕ → FloorEvent → List ℕ
sound_after sessions (Took event) = open_after sessions (Took event)
sound_after sessions (Sent session bytes) = sessions
sound_after sessions (Unsent session) = without session sessions
sound_after sessions (HungUp session) = without session sessions

-- the sessions that are open after a history
abbrev pub open_in : List FloorEvent → List ℕ
open_in history = fold open_after [] history

-- those of them to which no send has failed
abbrev pub sound_in : List FloorEvent → List ℕ
sound_in history = fold sound_after [] history

-- whether a session is among these
abbrev pub is_among : ℕ → List ℕ → Bool
is_among session sessions = list_any (λ other. nat_eq other session) sessions

-- whether a session is open
abbrev pub is_open : ℕ → List FloorEvent → Bool
is_open session history = is_among session (open_in history)

-- whether a session is open and no send to it has failed
abbrev pub is_sound : ℕ → List FloorEvent → Bool
is_sound session history = is_among session (sound_in history)

-- whether an event opens a session of that number
abbrev pub opens : ℕ → FloorEvent → Bool
opens session (Took (Opens other peer)) = nat_eq other session
opens session (Took (Brings other bytes)) = false
opens session (Took (Closes other)) = false
opens session (Took Rests) = false
opens session (Took Stops) = false
opens session (Sent other bytes) = false
opens session (Unsent other) = false
opens session (HungUp other) = false

-- no session number is used twice
abbrev pub NumbersOnce : List FloorEvent → Type 0
NumbersOnce history = (session : ℕ) → count_by (opens session) history ≤ 1

-- an event that may stand behind a history: an opening has a number that wasn't used, an end or a
-- hang-up is of an open session, and a piece or a send of one to which no send has failed
abbrev pub Follows : List FloorEvent → FloorEvent → Type 0
Follows history (Took (Opens session peer)) = count_by (opens session) history ≡ 0
Follows history (Took (Brings session bytes)) = is_sound session history ≡ true
Follows history (Took (Closes session)) = is_open session history ≡ true
Follows history (Took Rests) = Unit {0}
Follows history (Took Stops) = Unit {0}
Follows history (Sent session bytes) = is_sound session history ≡ true
Follows history (Unsent session) = is_sound session history ≡ true
Follows history (HungUp session) = is_open session history ≡ true

-- events that may stand behind a history, each behind those before it
abbrev pub AllFollow : List FloorEvent → List FloorEvent → Type 0
AllFollow history [] = Unit {0}
AllFollow history (event ∷ events) =
    Follows history event × AllFollow (history ++ event ∷ []) events

-- a send, and whether all of it was sent
abbrev pub send_event : ℕ → List ℕ → Bool → FloorEvent
send_event session bytes whole = if whole then Sent session bytes else Unsent session
