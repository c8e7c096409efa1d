-- What a store knows of a map: its entries without their bodies, and the files that it leaves alone
-- (own).
use Rattle.std.specs.Prelude.{◌≡◌, ◌↔◌, ℕ, List, Bool, true, false, Contains, All, IfSome, eqb, if◌then◌else◌}
use Rattle.std.specs.List.{AllZip}
use Rattle.mail_base.specs.declared.id.Kind.{Kind}
use Rattle.mail_base.specs.declared.id.Kind.TheVariants.{Df, Qf, Sf}
use Rattle.mail_base.specs.declared.control.Control.{Control}
use Rattle.mail_base.specs.declared.control.Stray.{Stray}
use Rattle.spool_disk.specs.Disk.{Place, FileMap, bytes_at}
use Rattle.spool_disk.specs.Spooled.{Spooled}
use Rattle.spool_store.specs.declared.held.Held.{Held}
use Rattle.spool_store.specs.Queue.{at, Spot, spot_place, IsStrange, IsLive}
use Rattle.spool_store.specs.Entries.{Stored, Table}
use Rattle.spool_store.specs.Openings.{IsStray}
use Rattle.spool_store.specs.Settled.{IsTidy}
use Rattle.spool_store.specs.Tidying.{IsForeign}

-- an entry of that id is among them
pub record HasId (items : List Held) (id : ℕ) : Type 0 where
  pub held : Held
  pub among : Contains items held
  pub is : held.entry.id ≡ id

-- what a store is, apart from the memory that it keeps for names
pub record StoreSeen : Type 0 where
  pub dirs : List (List ℕ)
  pub entries : List Held
  pub strange : List Stray
  pub next : ℕ
  pub broken : Bool
  pub room : ℕ

-- the kind of a held entry's control file
abbrev pub kind_of : Bool → Kind
kind_of true = Sf
kind_of false = Qf

abbrev pub spot_at : Held → Spot
spot_at h = record { dir = h.entry.dir; kind = kind_of h.finished; id = h.entry.id }

-- an entry of that spot and control is held
pub record HasHeld (entries : List Held) (s : Spot) (c : Control) : Type 0 where
  pub held : Held
  pub among : Contains entries held
  pub spot : spot_at held ≡ s
  pub control : held.entry.control ≡ c

-- the store has what the files have, and no file is half done
pub record Agrees (store : StoreSeen) (files : FileMap) : Type 0 where
  pub each : All (λ h. IsLive store.dirs files (spot_at h) h.entry.control) store.entries
  pub all : (s : Spot) (c : Control) → IsLive store.dirs files s c → HasHeld store.entries s c
  pub strange : (stray : Stray) → IsStray store.dirs files stray ↔ Contains store.strange stray
  pub tidy : IsTidy store.dirs store.next files

-- what holds between the calls of a store that isn't broken, by what is seen of its spool: where the
-- files are told, the store has what they have
abbrev pub IsAtRest : StoreSeen → Spooled → Type 0
IsAtRest store spooled = IfSome spooled.told (Agrees store)

-- an entry of a store and one of a table are the same but for the body
pub record IsHeld (h : Held) (s : Stored) : Type 0 where
  pub id : h.entry.id ≡ s.id
  pub dir : h.entry.dir ≡ s.dir
  pub control : h.entry.control ≡ s.control

-- a store and a table: the same entries in the same order, and the same first free id
pub record Holds (store : StoreSeen) (table : Table) : Type 0 where
  pub entries : AllZip IsHeld store.entries table.entries
  pub next : store.next ≡ table.next

-- an entry with another control, where it has that id
abbrev pub recontrolled : ℕ → Control → Held → Held
recontrolled id c h =
    if eqb h.entry.id id then record h { entry = record h.entry { control = c } } else h

-- an entry whose control file has its other name, where it has that id
abbrev pub refinished : ℕ → Held → Held
refinished id h = if eqb h.entry.id id then record h { finished = true } else h

-- a new entry
abbrev pub entered : Stored → Held
entered s =
    record { entry = record { id = s.id; dir = s.dir; control = s.control }; finished = false }

-- a place that no call touches: of no file of the queue, of a strange file, and of each body of its
-- id
pub data IsNobodys (dirs : List (List ℕ)) (f : FileMap) (place : Place) : Type 0 where
  of_none : IsForeign dirs place → IsNobodys dirs f place
  of_strange : (s : Spot) → IsStrange dirs f s → place ≡ spot_place s → IsNobodys dirs f place
  of_its_body : (s : Spot) (dir : List ℕ) → IsStrange dirs f s → Contains dirs dir
      → place ≡ at dir Df s.id → IsNobodys dirs f place

abbrev pub KeepsOthers : List (List ℕ) → FileMap → FileMap → Type 0
KeepsOthers dirs f g =
    (place : Place) → IsNobodys dirs f place → bytes_at g place ≡ bytes_at f place
