-- What is read into the room for a reply. It need not be believed: no public contract cites it.
use Rattle.std.specs.Prelude.{◌≡◌, ℕ, List, [], ◌∷◌, ◌++◌, length, Option, Result, Ok, Err}
use Rattle.mail_base.specs.declared.fault.Failed.{Failed}
use Rattle.mail_base.specs.Histories.{Gains}
use Rattle.link_edge.specs.declared.dial_event.DialEvent.{DialEvent}
use Rattle.link_edge.specs.declared.dial_event.DialEvent.TheVariants.{Read, Unread}

abbrev pub most_held : ℕ
most_held = 204800

-- so many bytes were read behind those at hand
pub record Filled (line : ℕ) (old new : Option (List DialEvent)) (bytes now : List ℕ)
    (count : ℕ) : Type 0 where
  pub piece : List ℕ
  pub size : length piece ≡ count
  pub now_is : now ≡ bytes ++ piece
  pub told : Gains old new (Read line piece ∷ [])

abbrev pub Fills : ℕ → Option (List DialEvent) → Option (List DialEvent) → List ℕ → List ℕ
    → Result ℕ Failed → Type 0
Fills line old new bytes now (Ok count) = Filled line old new bytes now count
Fills line old new bytes now (Err fault) = (now ≡ bytes) × Gains old new (Unread line ∷ [])
