-- Reading a queue: its control files, which of them are left alone, and which are entries of the
-- table (own; qf and df are those of the Sendmail Installation and Operation Guide, "The queue").
use Rattle.std.specs.Prelude.{◌≡◌, ◌≢◌, ◌⊎◌, ℕ, ◌<◌, ◌≤◌, List, Some, None, Contains, false}
use Rattle.mail_base.specs.declared.id.Kind.{Kind}
use Rattle.mail_base.specs.declared.id.Kind.TheVariants.{Df, Qf, Sf}
use Rattle.mail_base.specs.Names.{name_of}
use Rattle.mail_base.specs.Limits.{IsId}
use Rattle.spool_disk.specs.Disk.{Place, FileMap, bytes_at}
use Rattle.mail_base.specs.declared.control.Control.{Control}
use Rattle.mail_base.specs.declared.control.Parent.{Parent}
use Rattle.mail_base.specs.States.{is_finished, NeedsBody}
use Rattle.qf_format.specs.Saying.{Says}

-- a row of it is still to be done
abbrev pub IsOpen : Control → Type 0
IsOpen c = is_finished c ≡ false

-- the place of a file by its directory, kind and id
abbrev pub at : List ℕ → Kind → ℕ → Place
at dir kind id = (dir, name_of kind id)

-- where a control file lies
pub record Spot : Type 0 where
  pub dir : List ℕ
  pub kind : Kind
  pub id : ℕ

abbrev pub spot_place : Spot → Place
spot_place s = (s.dir, name_of s.kind s.id)

-- where its body lies
abbrev pub body_place : Spot → Place
body_place s = (s.dir, name_of Df s.id)

-- what may be a control file
pub record IsSpot (dirs : List (List ℕ)) (s : Spot) : Type 0 where
  pub among : Contains dirs s.dir
  pub kind : (s.kind ≡ Qf) ⊎ (s.kind ≡ Sf)
  pub within : IsId s.id

-- a control file, and its bytes
pub record IsControl (dirs : List (List ℕ)) (files : FileMap) (s : Spot)
    (bytes : List ℕ) : Type 0 where
  pub spot : IsSpot dirs s
  pub there : bytes_at files (spot_place s) ≡ Some bytes

-- a control file that says a control
pub record IsRead (dirs : List (List ℕ)) (files : FileMap) (s : Spot) (c : Control) : Type 0 where
  pub bytes : List ℕ
  pub there : IsControl dirs files s bytes
  pub says : Says bytes c

-- another control file has its id
pub record HasTwin (dirs : List (List ℕ)) (files : FileMap) (s : Spot) : Type 0 where
  pub other : Spot
  pub bytes : List ℕ
  pub there : IsControl dirs files other bytes
  pub id : other.id ≡ s.id
  pub apart : other ≢ s

-- a control names as parent an id that is less than its own
pub record IsUnder (c : Control) (s : Spot) (p : Parent) (above : Spot) : Type 0 where
  pub parent : c.parent ≡ Some p
  pub less : p.id < s.id
  pub id : above.id ≡ p.id

-- why a control file is left alone
pub data IsStrange (dirs : List (List ℕ)) (files : FileMap) : Spot → Type 0 where
  unread : (s : Spot) (bytes : List ℕ) → IsControl dirs files s bytes
      → ((c : Control) → Says bytes c → ⊥) → IsStrange dirs files s
  twice : (s : Spot) (bytes : List ℕ) → IsControl dirs files s bytes → HasTwin dirs files s
      → IsStrange dirs files s
  upward : (s : Spot) (c : Control) (p : Parent) → IsRead dirs files s c → c.parent ≡ Some p
      → s.id ≤ p.id → IsStrange dirs files s
  under : (s : Spot) (c : Control) (p : Parent) (above : Spot) → IsRead dirs files s c
      → IsUnder c s p above → IsStrange dirs files above → IsStrange dirs files s
  bodiless : (s : Spot) (c : Control) → IsRead dirs files s c → NeedsBody c
      → bytes_at files (body_place s) ≡ None → IsStrange dirs files s
  reopened : (s : Spot) (c : Control) → IsRead dirs files s c → s.kind ≡ Sf → IsOpen c
      → IsStrange dirs files s

-- a control file whose entry is in the table
pub data IsLive (dirs : List (List ℕ)) (files : FileMap) : Spot → Control → Type 0 where
  alone : (s : Spot) (c : Control) → IsRead dirs files s c → (IsStrange dirs files s → ⊥)
      → c.parent ≡ None → IsLive dirs files s c
  child : (s : Spot) (c : Control) (p : Parent) (above : Spot) (d : Control) → IsRead dirs files s c
      → (IsStrange dirs files s → ⊥) → IsUnder c s p above
      → IsLive dirs files above d → p.revision ≤ d.revision → IsLive dirs files s c
