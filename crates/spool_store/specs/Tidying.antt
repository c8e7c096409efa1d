-- What an opening may leave of a map, at any moment: one relation for all its phases (own; sf is a
-- finished entry's control file).
use Rattle.std.specs.Prelude.{◌≡◌, ◌≢◌, ◌⊎◌, ℕ, List, Some, None, Contains}
use Rattle.mail_base.specs.declared.id.Kind.{Kind}
use Rattle.mail_base.specs.declared.id.Kind.TheVariants.{Df, Qf, Tf, Sf}
use Rattle.spool_store.specs.Queue.{at, IsOpen, Spot, spot_place, IsSpot, IsControl, IsRead, IsStrange, IsLive}
use Rattle.mail_base.specs.Limits.{IsId}
use Rattle.spool_disk.specs.Disk.{Place, FileMap, bytes_at}
use Rattle.mail_base.specs.declared.control.Control.{Control}
use Rattle.mail_base.specs.States.{NeedsBody}

-- the spot of that kind, of the same directory and id
abbrev pub as_kind : Kind → Spot → Spot
as_kind kind s = record { dir = s.dir; kind = kind; id = s.id }

-- a control file that is neither strange nor live
pub record IsDead (dirs : List (List ℕ)) (f : FileMap) (s : Spot) : Type 0 where
  pub bytes : List ℕ
  pub there : IsControl dirs f s bytes
  pub plain : IsStrange dirs f s → ⊥
  pub lost : (c : Control) → IsLive dirs f s c → ⊥

-- a live qf whose rows are all done or dead has its other name
pub record HasMoved (dirs : List (List ℕ)) (f g : FileMap) (s : Spot) : Type 0 where
  pub kind : s.kind ≡ Qf
  pub control : Control
  pub live : IsLive dirs f s control
  pub closed : IsOpen control → ⊥
  pub gone : bytes_at g (spot_place s) ≡ None
  pub holds : bytes_at g (at s.dir Sf s.id) ≡ bytes_at f (spot_place s)

-- what has become of what lay at a spot
pub data IsTidiedAt (dirs : List (List ℕ)) (f g : FileMap) (s : Spot) : Type 0 where
  stays : bytes_at g (spot_place s) ≡ bytes_at f (spot_place s) → IsTidiedAt dirs f g s
  gone : bytes_at g (spot_place s) ≡ None → IsDead dirs f s → IsTidiedAt dirs f g s
  moved : HasMoved dirs f g s → IsTidiedAt dirs f g s
  came : s.kind ≡ Sf → HasMoved dirs f g (as_kind Qf s) → IsTidiedAt dirs f g s

-- what has become of a body: it may go where no strange file has its id, and no control file of its
-- id that is still there, in whatever directory, wants it
pub data IsTidiedBody (dirs : List (List ℕ)) (f g : FileMap) (dir : List ℕ) (id : ℕ) : Type 0 where
  stays : bytes_at g (at dir Df id) ≡ bytes_at f (at dir Df id) → IsTidiedBody dirs f g dir id
  gone : bytes_at g (at dir Df id) ≡ None → ((s : Spot) → s.id ≡ id → IsStrange dirs f s → ⊥)
      → ((s : Spot) (c : Control) → s.id ≡ id → IsRead dirs g s c → NeedsBody c → ⊥)
      → IsTidiedBody dirs f g dir id

-- a place of no file of the queue
abbrev pub IsForeign : List (List ℕ) → Place → Type 0
IsForeign dirs place =
    (dir : List ℕ) (kind : Kind) (id : ℕ) → Contains dirs dir → IsId id → place ≢ at dir kind id

pub record IsTidied (dirs : List (List ℕ)) (f g : FileMap) : Type 0 where
  pub controls : (s : Spot) → IsSpot dirs s → IsTidiedAt dirs f g s
  pub bodies : (dir : List ℕ) (id : ℕ) → Contains dirs dir → IsId id → IsTidiedBody dirs f g dir id
  pub drafts : (dir : List ℕ) (id : ℕ) → Contains dirs dir → IsId id
      → (bytes_at g (at dir Tf id) ≡ bytes_at f (at dir Tf id)) ⊎ (bytes_at g (at dir Tf id) ≡ None)
  pub others : (place : Place) → IsForeign dirs place → bytes_at g place ≡ bytes_at f place

-- what a renaming does, where it is done
pub record HasRenamed (from to : Place) (old new : FileMap) : Type 0 where
  pub holds : bytes_at new to ≡ bytes_at old from
  pub gone : bytes_at new from ≡ None
  pub others : (other : Place) → other ≢ from → other ≢ to → bytes_at new other ≡ bytes_at old other

-- what a renaming is about
pub record IsMove (dirs : List (List ℕ)) (f g h : FileMap) (s : Spot) (c : Control) : Type 0 where
  pub kind : s.kind ≡ Qf
  pub live : IsLive dirs f s c
  pub closed : IsOpen c → ⊥
  pub bytes : List ℕ
  pub there : IsControl dirs g s bytes
  pub renamed : HasRenamed (spot_place s) (spot_place (as_kind Sf s)) g h

-- what an opening that has ended knows of the map that it leaves
pub record IsSwept (dirs : List (List ℕ)) (g : FileMap) : Type 0 where
  pub drafts : (dir : List ℕ) (id : ℕ) → Contains dirs dir → IsId id
      → bytes_at g (at dir Tf id) ≡ None
  pub known : (s : Spot) (bytes : List ℕ) → IsControl dirs g s bytes
      → IsStrange dirs g s ⊎ ((c : Control) × IsLive dirs g s c)
  pub waiting : (s : Spot) (c : Control) → IsLive dirs g s c → s.kind ≡ Qf → IsOpen c
  pub bodies : (dir : List ℕ) (id : ℕ) (bytes : List ℕ) → Contains dirs dir → IsId id
      → bytes_at g (at dir Df id) ≡ Some bytes
      → ((s : Spot) × (s.id ≡ id) × IsStrange dirs g s)
      ⊎ ((s : Spot) × (c : Control) × (s.id ≡ id) × IsLive dirs g s c × NeedsBody c)

-- what a body waits for
pub data HasOwner (dirs : List (List ℕ)) (g : FileMap) (id : ℕ) : Type 0 where
  of_strange : (s : Spot) → s.id ≡ id → IsStrange dirs g s → HasOwner dirs g id
  of_queued : (s : Spot) (bytes : List ℕ) → s.id ≡ id → s.kind ≡ Qf → IsControl dirs g s bytes
      → HasOwner dirs g id
  of_finished : (s : Spot) (c : Control) → s.id ≡ id → s.kind ≡ Sf → IsRead dirs g s c
      → (IsOpen c → ⊥) → NeedsBody c → HasOwner dirs g id

-- no draft, no dead control file, no qf that is done, no stray body
pub record IsClean (dirs : List (List ℕ)) (g : FileMap) : Type 0 where
  pub drafts : (dir : List ℕ) (id : ℕ) → Contains dirs dir → IsId id
      → bytes_at g (at dir Tf id) ≡ None
  pub live : (s : Spot) (bytes : List ℕ) → IsControl dirs g s bytes → (IsStrange dirs g s → ⊥)
      → (c : Control) × IsLive dirs g s c
  pub waiting : (s : Spot) (c : Control) → IsLive dirs g s c → s.kind ≡ Qf → IsOpen c
  pub bodies : (dir : List ℕ) (id : ℕ) (bytes : List ℕ) → Contains dirs dir → IsId id
      → bytes_at g (at dir Df id) ≡ Some bytes → HasOwner dirs g id
