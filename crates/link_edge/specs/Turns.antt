-- What a turn of a floor puts into its buffer, and what it tells (own).
use Rattle.std.specs.Prelude.{◌≡◌, ◌<◌, ◌≤◌, ℕ, List, [], ◌∷◌, length, take, Option, Result, Ok, Err, false, nat_eq}
use Rattle.std.specs.List.{list_any}
use Rattle.mail_base.specs.declared.fault.Failed.{Failed}
use Rattle.mail_base.specs.Histories.{Gains}
use Rattle.link_edge.specs.declared.event.Event.TheVariants.{Opens, Brings, Closes, Rests, Stops}
use Rattle.link_edge.specs.declared.event.FloorEvent.{FloorEvent}
use Rattle.link_edge.specs.declared.event.FloorEvent.TheVariants.{Took}
use Rattle.link_edge.specs.declared.turn.Turn.{Turn}
use Rattle.link_edge.specs.declared.turn.Turn.TheVariants.{Opened, Piece, Closed, Idle, Stop}

-- the address of a peer: at most 64 bytes, none of them LF
pub record IsPeer (bytes : List ℕ) : Type 0 where
  pub short : length bytes ≤ 64
  pub line : list_any (λ byte. nat_eq byte 10) bytes ≡ false

-- a peer's address, or a piece of one byte at least, stands at the front of the buffer
abbrev pub Fits : Turn → List ℕ → Type 0
Fits (Opened session count) buf = (count ≤ length buf) × IsPeer (take count buf)
Fits (Piece session count) buf = (0 < count) × (count ≤ length buf)
Fits (Closed session) buf = Unit {0}
Fits Idle buf = Unit {0}
Fits Stop buf = Unit {0}

-- the event of a turn, with its bytes
abbrev pub told_of : Turn → List ℕ → FloorEvent
told_of (Opened session count) buf = Took (Opens session (take count buf))
told_of (Piece session count) buf = Took (Brings session (take count buf))
told_of (Closed session) buf = Took (Closes session)
told_of Idle buf = Took Rests
told_of Stop buf = Took Stops

-- a turn is told with its bytes, and one that failed isn't told
abbrev pub GainsTurn : Option (List FloorEvent) → Option (List FloorEvent)
    → Result Turn Failed → List ℕ → Type 0
GainsTurn old new (Ok turn) buf = Gains old new (told_of turn buf ∷ [])
GainsTurn old new (Err fault) buf = Gains old new []
