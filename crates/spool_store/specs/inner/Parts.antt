-- The parts of a commit as they are written, and what a stop leaves of them (own).
use Rattle.std.specs.Prelude.{◌≡◌, ◌⊎◌, ℕ, ◌≤◌, ◌<◌, List, [], None, All, AllPairs, Any, Contains}
use Rattle.mail_base.specs.Limits.{IsId}
use Rattle.mail_base.specs.declared.control.Control.{Control}
use Rattle.spool_disk.specs.Disk.{Place, FileMap, bytes_at}
use Rattle.spool_store.specs.Entries.{Stored}
use Rattle.spool_store.specs.Changes.{control_place, body_at, draft_place, IsMidway}
use Rattle.spool_store.specs.Writes.{IsFurther}
use Rattle.spool_store.specs.declared.held.Held.{Held}

-- an entry with its new control; of its body nothing is said
abbrev pub with_new : Held → Control → Stored
with_new h c = record { id = h.entry.id; dir = h.entry.dir; control = c; body = [] }

-- one more entry can be written over a map: its id is free, and no other's, and it has no draft
pub record CanFollow (f : FileMap) (next : ℕ) (done : List Stored) (s : Stored) : Type 0 where
  pub free : next ≤ s.id
  pub within : IsId s.id
  pub further : IsFurther done s
  pub fresh : bytes_at f (draft_place s) ≡ None

-- an old entry's control can be written over a map: its id is none of these, and it has no draft
pub record CanRaise (f : FileMap) (done : List Stored) (s : Stored) : Type 0 where
  pub within : IsId s.id
  pub further : IsFurther done s
  pub fresh : bytes_at f (draft_place s) ≡ None

-- a file of these entries: a body, a draft or a control file
pub data IsOwn (own : List Stored) (place : Place) : Type 0 where
  own_body : (s : Stored) → Contains own s → place ≡ body_at s → IsOwn own place
  own_draft : (s : Stored) → Contains own s → place ≡ draft_place s → IsOwn own place
  own_control : (s : Stored) → Contains own s → place ≡ control_place s → IsOwn own place

-- each file is as it was, or one of these entries'
abbrev pub IsLeft : List Stored → FileMap → FileMap → Type 0
IsLeft own f g = (place : Place) → (bytes_at g place ≡ bytes_at f place) ⊎ IsOwn own place

-- what a stop leaves before the renaming that decides: each place is as it was, or is unfinished,
-- or holds a child
pub record IsUnderWay (next : ℕ) (own children : List Stored) (f g : FileMap) : Type 0 where
  pub at : (place : Place)
      → IsMidway next (λ p. Any (λ s. p ≡ draft_place s) own) children f g place
  pub left : IsLeft own f g

-- entries that are new over a map
pub record AreNew (f : FileMap) (next : ℕ) (these : List Stored) : Type 0 where
  pub ascending : AllPairs (λ s t. s.id < t.id) these
  pub free : All (λ s. next ≤ s.id) these
  pub within : All (λ s. IsId s.id) these
  pub fresh : All (λ s. bytes_at f (draft_place s) ≡ None) these

-- the entries so far are new ones among the children
abbrev pub AreAmong : ℕ → List Stored → List Stored → Type 0
AreAmong next done children =
    (t : Stored) → Contains done t → Contains children t × (next ≤ t.id) × IsId t.id
