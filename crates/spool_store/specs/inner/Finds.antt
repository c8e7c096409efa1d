-- What an opening finds of a map: its files by directory, kind and id, and what its control files
-- say (own).
use Rattle.std.specs.Prelude.{◌≡◌, ◌≢◌, ◌⊎◌, ℕ, ◌<◌, List, [], Option, Some, None, IsSome, Contains}
use Rattle.std.specs.List.{slice_index_or}
use Rattle.mail_base.specs.declared.id.Kind.{Kind}
use Rattle.mail_base.specs.declared.id.Kind.TheVariants.{Qf, Sf}
use Rattle.mail_base.specs.declared.control.Control.{Control}
use Rattle.mail_base.specs.declared.control.Stray.{Stray}
use Rattle.mail_base.specs.Names.{name_of}
use Rattle.mail_base.specs.Limits.{IsId}
use Rattle.spool_disk.specs.Disk.{FileMap, bytes_at}
use Rattle.qf_format.specs.Saying.{Says}
use Rattle.qf_format.specs.Valid.{IsValid}
use Rattle.spool_store.specs.Queue.{at, Spot, spot_place, IsControl}
use Rattle.spool_store.specs.declared.named.Named.{Named}
use Rattle.spool_store.specs.declared.named.Found.{Found}

-- a directory by its number
abbrev pub dir_at : List (List ℕ) → ℕ → List ℕ
dir_at dirs i = slice_index_or dirs i []

-- where a file lies that is named by the number of its directory
abbrev pub spot_named : List (List ℕ) → Named → Spot
spot_named dirs x = record { dir = dir_at dirs x.dir; kind = x.kind; id = x.id }

-- a file that is there, in one of the first n directories
pub record IsThere (dirs : List (List ℕ)) (f : FileMap) (n : ℕ) (x : Named) : Type 0 where
  pub before : x.dir < n
  pub within : IsId x.id
  pub there : IsSome (bytes_at f (spot_place (spot_named dirs x)))

-- exactly the files of the queue in the first n directories
pub record AreNamed (dirs : List (List ℕ)) (f : FileMap) (n : ℕ) (names : List Named) : Type 0 where
  pub each : (x : Named) → Contains names x → IsThere dirs f n x
  pub all : (i : ℕ) (kind : Kind) (id : ℕ) → i < n → IsId id
      → IsSome (bytes_at f (at (dir_at dirs i) kind id))
      → Contains names (record { dir = i; kind = kind; id = id })

-- a name of no file of the queue
abbrev pub IsOther : List ℕ → Type 0
IsOther name = (kind : Kind) (id : ℕ) → name ≢ name_of kind id

-- a file of another name that is there, in one of the first n directories
pub record IsForeignFile (dirs : List (List ℕ)) (f : FileMap) (n : ℕ) (x : Stray) : Type 0 where
  pub number : ℕ
  pub before : number < n
  pub dir : x.dir ≡ dir_at dirs number
  pub other : IsOther x.name
  pub there : IsSome (bytes_at f (x.dir, x.name))

-- exactly the files of other names in the first n directories
pub record AreForeign (dirs : List (List ℕ)) (f : FileMap) (n : ℕ)
    (strays : List Stray) : Type 0 where
  pub each : (x : Stray) → Contains strays x → IsForeignFile dirs f n x
  pub all : (i : ℕ) (name : List ℕ) → i < n → IsOther name
      → IsSome (bytes_at f (dir_at dirs i, name))
      → Contains strays (record { dir = dir_at dirs i; name = name })

-- the files of one more directory, whose names are these
pub record AddsNamed (i : ℕ) (names : List (List ℕ)) (old new : List Named) : Type 0 where
  pub kept : (x : Named) → Contains old x → Contains new x
  pub each : (x : Named) → Contains new x
      → Contains old x ⊎ ((x.dir ≡ i) × IsId x.id × Contains names (name_of x.kind x.id))
  pub all : (kind : Kind) (id : ℕ) → IsId id → Contains names (name_of kind id)
      → Contains new (record { dir = i; kind = kind; id = id })

pub record AddsStrays (dir : List ℕ) (names : List (List ℕ)) (old new : List Stray) : Type 0 where
  pub kept : (x : Stray) → Contains old x → Contains new x
  pub each : (x : Stray) → Contains new x
      → Contains old x ⊎ ((x.dir ≡ dir) × Contains names x.name × IsOther x.name)
  pub all : (name : List ℕ) → Contains names name → IsOther name
      → Contains new (record { dir = dir; name = name })

-- what bytes say
abbrev pub IsMeaning : List ℕ → Option Control → Type 0
IsMeaning bytes (Some c) = Says bytes c
IsMeaning bytes None = (c : Control) → Says bytes c → ⊥

-- a control file that is there, and what it says
pub record IsFound (dirs : List (List ℕ)) (f : FileMap) (x : Found) : Type 0 where
  pub bytes : List ℕ
  pub there : IsControl dirs f (spot_named dirs x.named) bytes
  pub means : IsMeaning bytes x.control

-- exactly the control files
pub record AreFound (dirs : List (List ℕ)) (f : FileMap) (found : List Found) : Type 0 where
  pub each : (x : Found) → Contains found x → IsFound dirs f x
  pub all : (s : Spot) (bytes : List ℕ) → IsControl dirs f s bytes
      → (x : Found) × Contains found x × (spot_named dirs x.named ≡ s)

-- one more control file is read, if it is there
pub record AddsFound (dirs : List (List ℕ)) (f : FileMap) (named : Named)
    (old new : List Found) : Type 0 where
  pub kept : (x : Found) → Contains old x → Contains new x
  pub each : (x : Found) → Contains new x → Contains old x ⊎ IsFound dirs f x
  pub all : IsSome (bytes_at f (spot_place (spot_named dirs named)))
      → (x : Found) × Contains new x × (x.named ≡ named)

-- the control files among these
pub record AreRead (dirs : List (List ℕ)) (f : FileMap) (names : List Named)
    (found : List Found) : Type 0 where
  pub each : (x : Found) → Contains found x → IsFound dirs f x
  pub all : (x : Named) → Contains names x → (x.kind ≡ Qf) ⊎ (x.kind ≡ Sf)
      → (y : Found) × Contains found y × (y.named ≡ x)

-- what a control file says, if anything, has a text
abbrev pub HasText : Found → Type 0
HasText x = (c : Control) → x.control ≡ Some c → IsValid c

-- what was read is of these files, and what it says has a text
abbrev pub AreAmong : List Named → List Found → Type 0
AreAmong names found = (x : Found) → Contains found x → Contains names x.named × HasText x
