-- What an opening tells of a map (own; an entry is that of the Sendmail Installation and Operation
-- Guide, "The queue").
use Rattle.std.specs.Prelude.{◌≡◌, ◌⊎◌, List, ℕ, ◌+◌, ◌<◌, ◌≢◌, All, AllPairs, IsSome, Contains}
use Rattle.mail_base.specs.declared.id.Kind.{Kind}
use Rattle.mail_base.specs.declared.control.Control.{Control}
use Rattle.mail_base.specs.declared.control.Entry.{Entry}
use Rattle.mail_base.specs.declared.control.Stray.{Stray}
use Rattle.mail_base.specs.Names.{name_of}
use Rattle.qf_format.specs.Valid.{IsValid}
use Rattle.spool_disk.specs.Disk.{FileMap, bytes_at}
use Rattle.spool_store.specs.Settled.{IsNamed}
use Rattle.spool_store.specs.Queue.{Spot, IsLive, IsStrange}

-- exactly the entries of the live control files
pub record AreEntries (dirs : List (List ℕ)) (f : FileMap) (entries : List Entry) : Type 0 where
  pub each : (e : Entry) → Contains entries e
      → (kind : Kind) × IsLive dirs f (record { dir = e.dir; kind = kind; id = e.id }) e.control
  pub all : (s : Spot) (c : Control) → IsLive dirs f s c
      → Contains entries (record { id = s.id; dir = s.dir; control = c })

-- an entry of these directories, whose control has a text
pub record IsFitting (dirs : List (List ℕ)) (e : Entry) : Type 0 where
  pub dir : Contains dirs e.dir
  pub valid : IsValid e.control

-- each id is less than those behind it
abbrev pub AreAscending : List Entry → Type 0
AreAscending entries = AllPairs (λ (one : Entry) (another : Entry). one.id < another.id) entries

-- in order of id, each once, and below the first free one
pub record AreOrdered (entries : List Entry) (next : ℕ) : Type 0 where
  pub ascending : AreAscending entries
  pub below : All (λ (e : Entry). e.id < next) entries

-- the first free id: above each id that is named, and 1 or just above one
pub record IsNext (dirs : List (List ℕ)) (f : FileMap) (next : ℕ) : Type 0 where
  pub above : (id : ℕ) → IsNamed dirs f id → id < next
  pub least : (next ≡ 1) ⊎ ((id : ℕ) × IsNamed dirs f id × (next ≡ id + 1))

-- a file that is left alone: of another name, or a strange control file
pub data IsStray (dirs : List (List ℕ)) (f : FileMap) (x : Stray) : Type 0 where
  other_name : Contains dirs x.dir → ((kind : Kind) (id : ℕ) → x.name ≢ name_of kind id)
      → IsSome (bytes_at f (x.dir, x.name)) → IsStray dirs f x
  strange_file : (s : Spot) → IsStrange dirs f s → s.dir ≡ x.dir → name_of s.kind s.id ≡ x.name
      → IsStray dirs f x

-- exactly these
pub record AreStrays (dirs : List (List ℕ)) (f : FileMap) (strays : List Stray) : Type 0 where
  pub each : (x : Stray) → Contains strays x → IsStray dirs f x
  pub all : (x : Stray) → IsStray dirs f x → Contains strays x
