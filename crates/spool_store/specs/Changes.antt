-- What a commit and a replaced control make of a map, over the map before: place by place, so that
-- no stage of their calls is named (own).
use Rattle.std.specs.Prelude.{◌≡◌, ◌≢◌, ℕ, ◌<◌, ◌≤◌, List, Some, None, Contains, All}
use Rattle.std.specs.List.Sorted.{IsStrictlySortedBy}
use Rattle.std.specs.Ordering.{nat_cmp}
use Rattle.mail_base.specs.declared.id.Kind.TheVariants.{Df, Qf, Tf}
use Rattle.mail_base.specs.Names.{name_of}
use Rattle.mail_base.specs.Limits.{IsId}
use Rattle.spool_disk.specs.Disk.{Place, FileMap, bytes_at}
use Rattle.mail_base.specs.declared.control.Control.{Control}
use Rattle.mail_base.specs.declared.control.Parent.{Parent}
use Rattle.mail_base.specs.States.{NeedsBody}
use Rattle.qf_format.specs.Valid.{IsValid}
use Rattle.qf_format.specs.Spelling.{spelled}
use Rattle.spool_store.specs.Queue.{Spot, spot_place, IsLive}
use Rattle.spool_store.specs.Entries.{Stored, ids}
use Rattle.spool_store.specs.Settled.{spot_of}

-- a live qf holds a control of a greater revision now, and nothing else has changed
pub record IsRaised (dirs : List (List ℕ)) (s : Spot) (old new : Control)
    (f g : FileMap) : Type 0 where
  pub live : IsLive dirs f s old
  pub kind : s.kind ≡ Qf
  pub valid : IsValid new
  pub parent : new.parent ≡ old.parent
  pub revision : old.revision ≤ new.revision
  pub wanted : NeedsBody new → NeedsBody old
  pub holds : bytes_at g (spot_place s) ≡ Some (spelled new)
  pub others : (place : Place) → place ≢ spot_place s → bytes_at g place ≡ bytes_at f place

-- the control file and the body file of an entry
abbrev pub control_place : Stored → Place
control_place s = spot_place (spot_of Qf s)

abbrev pub body_at : Stored → Place
body_at s = (s.dir, name_of Df s.id)

abbrev pub draft_place : Stored → Place
draft_place s = (s.dir, name_of Tf s.id)

-- a new entry: its id is free, and its text can be read
pub record IsNew (dirs : List (List ℕ)) (next : ℕ) (s : Stored) : Type 0 where
  pub free : next ≤ s.id
  pub within : IsId s.id
  pub among : Contains dirs s.dir
  pub valid : IsValid s.control

-- a live control file of the parent's id and at least its revision
pub record HasLive (dirs : List (List ℕ)) (files : FileMap) (p : Parent) : Type 0 where
  pub above : Spot
  pub control : Control
  pub id : above.id ≡ p.id
  pub live : IsLive dirs files above control
  pub least : p.revision ≤ control.revision

-- a new entry's parent is there: a new entry too, or a live one
pub data IsRooted (dirs : List (List ℕ)) (f : FileMap) (added : List Stored)
    (s : Stored) : Type 0 where
  of_none : s.control.parent ≡ None → IsRooted dirs f added s
  of_added : (p : Parent) (a : Stored) → s.control.parent ≡ Some p → p.id < s.id → Contains added a
      → a.id ≡ p.id → p.revision ≤ a.control.revision → IsRooted dirs f added s
  of_live : (p : Parent) → s.control.parent ≡ Some p → p.id < s.id → HasLive dirs f p
      → IsRooted dirs f added s

-- a place holds a file of a new entry, or what it held
pub data IsPut (added : List Stored) (f g : FileMap) (place : Place) : Type 0 where
  control : (s : Stored) → Contains added s → place ≡ control_place s
      → bytes_at g place ≡ Some (spelled s.control) → IsPut added f g place
  body : (s : Stored) → Contains added s → place ≡ body_at s → bytes_at g place ≡ Some s.body
      → IsPut added f g place
  other : bytes_at g place ≡ bytes_at f place → IsPut added f g place

pub record HoldsBoth (g : FileMap) (s : Stored) : Type 0 where
  pub control : bytes_at g (control_place s) ≡ Some (spelled s.control)
  pub body : bytes_at g (body_at s) ≡ Some s.body

-- new entries, each with a parent that is there, and their files; nothing else has changed
pub record IsAdded (dirs : List (List ℕ)) (next : ℕ) (added : List Stored)
    (f g : FileMap) : Type 0 where
  pub ascending : IsStrictlySortedBy nat_cmp (ids added)
  pub new : All (IsNew dirs next) added
  pub rooted : All (IsRooted dirs f added) added
  pub holds : All (HoldsBoth g) added
  pub at : (place : Place) → IsPut added f g place

-- a child's parent isn't there yet, or has not yet the child's revision
pub data IsAway (dirs : List (List ℕ)) (next : ℕ) (f : FileMap) (children : List Stored)
    (p : Parent) : Type 0 where
  not_yet : next ≤ p.id → All (λ s. s.id ≢ p.id) children → IsAway dirs next f children p
  lower : (above : Spot) (c : Control) → p.id < next → above.id ≡ p.id → IsLive dirs f above c
      → c.revision < p.revision → IsAway dirs next f children p

pub record IsWaiting (dirs : List (List ℕ)) (next : ℕ) (f : FileMap) (children : List Stored)
    (s : Stored) : Type 0 where
  pub parent : Parent
  pub is : s.control.parent ≡ Some parent
  pub away : IsAway dirs next f children parent

-- before the renaming that decides: each place is as it was, or is a body or a draft of a free id,
-- or a draft of a spot, or the whole control file of a child
pub data IsMidway (next : ℕ) (drafted : Place → Type 0) (children : List Stored) (f g : FileMap)
    (place : Place) : Type 0 where
  as_before : bytes_at g place ≡ bytes_at f place → IsMidway next drafted children f g place
  body : (dir : List ℕ) (id : ℕ) → next ≤ id → IsId id → place ≡ (dir, name_of Df id)
      → IsMidway next drafted children f g place
  draft : (dir : List ℕ) (id : ℕ) → drafted place → place ≡ (dir, name_of Tf id)
      → IsMidway next drafted children f g place
  of_child : (s : Stored) → Contains children s → place ≡ control_place s
      → bytes_at g place ≡ Some (spelled s.control) → IsMidway next drafted children f g place

pub record IsBefore (dirs : List (List ℕ)) (next : ℕ) (drafted : Place → Type 0)
    (children : List Stored) (f g : FileMap) : Type 0 where
  pub new : All (IsNew dirs next) children
  pub waiting : All (IsWaiting dirs next f children) children
  pub at : (place : Place) → IsMidway next drafted children f g place
