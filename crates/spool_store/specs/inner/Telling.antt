-- The entries that an opening tells, one control file after another (own).
use Rattle.std.specs.Prelude.{◌≡◌, ◌⊎◌, List, [], ◌∷◌, ◌++◌, ℕ, ◌+◌, ◌<◌, ◌≤◌, All, Some, Contains}
use Rattle.mail_base.specs.declared.control.Control.{Control}
use Rattle.mail_base.specs.declared.control.Entry.{Entry}
use Rattle.mail_base.specs.declared.control.Parent.{Parent}
use Rattle.mail_base.specs.declared.control.Stray.{Stray}
use Rattle.mail_base.specs.Names.{name_of}
use Rattle.spool_disk.specs.Disk.{FileMap}
use Rattle.spool_store.specs.Openings.{AreAscending}
use Rattle.spool_store.specs.Queue.{IsLive, IsStrange}
use Rattle.spool_store.specs.declared.named.Found.{Found}
use Rattle.spool_store.specs.inner.Finds.{dir_at, spot_named}

-- the entry of a control file
abbrev pub entry_found : List (List ℕ) → Found → Control → Entry
entry_found dirs x c = record { id = x.named.id; dir = dir_at dirs x.named.dir; control = c }

-- exactly the entries of those of them that are live
pub record AreTold (dirs : List (List ℕ)) (f : FileMap) (found : List Found)
    (entries : List Entry) : Type 0 where
  pub each : (e : Entry) → Contains entries e
      → (x : Found) × (c : Control) × IsLive dirs f (spot_named dirs x.named) c
      × (e ≡ entry_found dirs x c)
  pub all : (x : Found) (c : Control) → Contains found x → IsLive dirs f (spot_named dirs x.named) c
      → Contains entries (entry_found dirs x c)

-- an entry of that id is among them
pub record HasEntry (entries : List Entry) (id : ℕ) : Type 0 where
  pub entry : Entry
  pub among : Contains entries entry
  pub is : entry.id ≡ id

-- they ascend, up to an id
pub record IsRising (entries : List Entry) (most : ℕ) : Type 0 where
  pub ascending : AreAscending entries
  pub most_is : All (λ (e : Entry). e.id ≤ most) entries

-- nothing is added, or an entry of that id
abbrev pub IsAdding : List Entry → List Entry → ℕ → Type 0
IsAdding old new id = (new ≡ old) ⊎ ((e : Entry) × (e.id ≡ id) × (new ≡ old ++ e ∷ []))

-- each has the id of one of these control files
abbrev pub ComeFrom : List Found → List Entry → Type 0
ComeFrom found entries =
    (e : Entry) → Contains entries e → (x : Found) × Contains found x × (e.id ≡ x.named.id)

-- a control file names a parent
pub record Names (x : Found) (p : Parent) : Type 0 where
  pub control : Control
  pub is : x.control ≡ Some control
  pub parent : control.parent ≡ Some p

-- above each parent that these name, and the number before or just above one
pub record IsPast (found : List Found) (before after : ℕ) : Type 0 where
  pub kept : before ≤ after
  pub above : (x : Found) (p : Parent) → Contains found x → Names x p → p.id < after
  pub least : (after ≡ before)
      ⊎ ((x : Found) × (p : Parent) × Contains found x × Names x p × (after ≡ p.id + 1))

-- the stray that a strange control file is
abbrev pub stray_found : List (List ℕ) → Found → Stray
stray_found dirs x =
    record { dir = dir_at dirs x.named.dir; name = name_of x.named.kind x.named.id }

-- strays from before, and those of these control files that are strange
pub record AreShown (dirs : List (List ℕ)) (f : FileMap) (before : List Stray) (found : List Found)
    (strays : List Stray) : Type 0 where
  pub each : (w : Stray) → Contains strays w
      → Contains before w
      ⊎ ((x : Found) × IsStrange dirs f (spot_named dirs x.named) × (stray_found dirs x ≡ w))
  pub kept : (w : Stray) → Contains before w → Contains strays w
  pub all : (x : Found) → Contains found x → IsStrange dirs f (spot_named dirs x.named)
      → Contains strays (stray_found dirs x)
