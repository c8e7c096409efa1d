-- The files that a table of parts stands in (own; qf, df and tf are those of the Sendmail
-- Installation and Operation Guide, "The queue").
use Rattle.std.specs.Prelude.{◌≡◌, ℕ, ◌<◌, List, Some, None, Contains, All}
use Rattle.std.specs.List.Sorted.{IsStrictlySortedBy}
use Rattle.std.specs.Ordering.{nat_cmp}
use Rattle.mail_base.specs.declared.id.Kind.{Kind}
use Rattle.mail_base.specs.declared.id.Kind.TheVariants.{Df, Tf}
use Rattle.mail_base.specs.Names.{name_of}
use Rattle.mail_base.specs.Limits.{IsId}
use Rattle.spool_disk.specs.Disk.{FileMap, bytes_at}
use Rattle.mail_base.specs.declared.control.Control.{Control}
use Rattle.mail_base.specs.declared.control.Parent.{Parent}
use Rattle.mail_base.specs.States.{NeedsBody}
use Rattle.spool_store.specs.Queue.{Spot, IsControl, IsRead, IsStrange, IsLive}
use Rattle.spool_store.specs.Entries.{Stored, Table, ids}

-- the spot of an entry's control file of that kind
abbrev pub spot_of : Kind → Stored → Spot
spot_of kind s = record { dir = s.dir; kind = kind; id = s.id }

-- the files hold an entry: its control file is live, and its body is there where it is wanted
pub record HasFiles (dirs : List (List ℕ)) (files : FileMap) (s : Stored) : Type 0 where
  pub kind : Kind
  pub live : IsLive dirs files (spot_of kind s) s.control
  pub body : NeedsBody s.control → bytes_at files (s.dir, name_of Df s.id) ≡ Some s.body

-- an entry with that directory, id and control is among them
pub record HasRead (entries : List Stored) (s : Spot) (c : Control) : Type 0 where
  pub stored : Stored
  pub among : Contains entries stored
  pub id : stored.id ≡ s.id
  pub dir : stored.dir ≡ s.dir
  pub control : stored.control ≡ c

-- the files stand for the table: each entry is held by them, and no other control file is live
pub record StandsFor (dirs : List (List ℕ)) (table : Table) (files : FileMap) : Type 0 where
  pub ascending : IsStrictlySortedBy nat_cmp (ids table.entries)
  pub each : All (HasFiles dirs files) table.entries
  pub all : (s : Spot) (c : Control) → IsLive dirs files s c → HasRead table.entries s c

-- some name of the four forms has that id, or some control file names it as parent
pub data IsNamed (dirs : List (List ℕ)) (files : FileMap) (id : ℕ) : Type 0 where
  in_name : (dir : List ℕ) (kind : Kind) (bytes : List ℕ) → Contains dirs dir → IsId id
      → bytes_at files (dir, name_of kind id) ≡ Some bytes → IsNamed dirs files id
  as_parent : (s : Spot) (c : Control) (p : Parent) → IsRead dirs files s c → c.parent ≡ Some p
      → p.id ≡ id → IsNamed dirs files id

-- no file is half done: what is between two calls that went well, beside the table itself
pub record IsTidy (dirs : List (List ℕ)) (next : ℕ) (files : FileMap) : Type 0 where
  pub whole : (s : Spot) (bytes : List ℕ) → IsControl dirs files s bytes
      → (IsStrange dirs files s → ⊥) → (c : Control) × IsLive dirs files s c
  pub fresh : (id : ℕ) → IsNamed dirs files id → id < next
  pub drafts : (dir : List ℕ) (id : ℕ) → Contains dirs dir → IsId id
      → bytes_at files (dir, name_of Tf id) ≡ None

-- between calls
pub record IsSettled (dirs : List (List ℕ)) (table : Table) (files : FileMap) : Type 0 where
  pub stands : StandsFor dirs table files
  pub tidy : IsTidy dirs table.next files
