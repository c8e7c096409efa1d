-- The files of a spool, and the model of the disk that they lie on: what a call leads to, and what
-- a stop in it leaves (own).
use Rattle.std.specs.Prelude.{◌≡◌, ◌≢◌, ◌⊎◌, ℕ, List, [], ◌∷◌, Option, Some, None, Bool, ◌&&◌, bytes_eq, if◌then◌else◌}
use Rattle.spool_disk.specs.declared.file.File.{File}
use Rattle.spool_disk.specs.declared.change.Change.{Change}
use Rattle.spool_disk.specs.declared.change.Change.TheVariants.{Write, Rename, Remove}

-- a directory, and a name in it
abbrev pub Place : Type 0
Place = List ℕ × List ℕ

-- a finite map from places to bytes: files, of which the first at a place counts
abbrev pub FileMap : Type 0
FileMap = List File

-- whether a file lies at that place
abbrev pub lies_at : Place → File → Bool
lies_at place file = bytes_eq place.0 file.dir && bytes_eq place.1 file.name

-- the bytes of the file at that place, if there is one
abbrev pub bytes_at : FileMap → Place → Option (List ℕ)
bytes_at [] place = None
bytes_at (file ∷ files) place = if lies_at place file then Some file.bytes else bytes_at files place

-- the two maps are the same
abbrev pub IsSame : FileMap → FileMap → Type 0
IsSame old new = (place : Place) → bytes_at new place ≡ bytes_at old place

-- the two maps are the same but at one place
abbrev pub IsSameBut : Place → FileMap → FileMap → Type 0
IsSameBut place old new = (other : Place) → other ≢ place → bytes_at new other ≡ bytes_at old other

-- the file holds these bytes, and the others are as they were
pub record HasWritten (place : Place) (bytes : List ℕ) (old new : FileMap) : Type 0 where
  pub holds : bytes_at new place ≡ Some bytes
  pub others : IsSameBut place old new

-- the new name has the bytes of the old one, which is gone, and the others are as they were
pub record HasRenamed (dir from to : List ℕ) (old new : FileMap) : Type 0 where
  pub holds : bytes_at new (dir, to) ≡ bytes_at old (dir, from)
  pub gone : bytes_at new (dir, from) ≡ None
  pub others : (other : Place) → other ≢ (dir, from) → other ≢ (dir, to)
      → bytes_at new other ≡ bytes_at old other

-- the file is gone, and the others are as they were
pub record HasRemoved (place : Place) (old new : FileMap) : Type 0 where
  pub gone : bytes_at new place ≡ None
  pub others : IsSameBut place old new

-- what a call that went well leads to
abbrev pub IsDone : Change → FileMap → FileMap → Type 0
IsDone (Write dir name bytes) = HasWritten (dir, name) bytes
IsDone (Rename dir from to) = HasRenamed dir from to
IsDone (Remove dir name) = HasRemoved (dir, name)

-- what a stop in a call may leave, and what a failed call leaves: while a file is written it is
-- absent or holds any bytes; a renaming or a removal was done or not
abbrev pub IsImage : Change → FileMap → FileMap → Type 0
IsImage (Write dir name bytes) old new = IsSameBut (dir, name) old new
IsImage (Rename dir from to) old new = IsSame old new ⊎ HasRenamed dir from to old new
IsImage (Remove dir name) old new = IsSame old new ⊎ HasRemoved (dir, name) old new
