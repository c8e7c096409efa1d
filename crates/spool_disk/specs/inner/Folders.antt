-- Files by their directories and there by their names.
use Rattle.std.specs.Prelude.{◌≡◌, ◌≢◌, ℕ, List, [], ◌∷◌, ◌++◌, Option, None, Some, map}
use Rattle.std.specs.Map.{keys_of}
use Rattle.mail_base.specs.Catalogs.{value_at}
use Rattle.spool_disk.specs.Disk.{Place, FileMap, bytes_at}

-- directories with their files, which are names with their bytes
abbrev pub FolderMap : Type 0
FolderMap = List (List ℕ × List (List ℕ × List ℕ))

-- no directory stands twice
abbrev pub AreApart : FolderMap → Type 0
AreApart [] = Unit {0}
AreApart (folder ∷ folders) = (value_at folder.0 folders ≡ None) × AreApart folders

-- the bytes of a name in a directory, if it is there
abbrev pub in_folder : Option (List (List ℕ × List ℕ)) → List ℕ → Option (List ℕ)
in_folder None name = None
in_folder (Some files) name = value_at name files

-- the bytes of the file at a place, if there is one
abbrev pub held_at : FolderMap → Place → Option (List ℕ)
held_at folders place = in_folder (value_at place.0 folders) place.1

-- they hold exactly these files
abbrev pub Holds : FolderMap → FileMap → Type 0
Holds folders files = (place : Place) → held_at folders place ≡ bytes_at files place

-- one place has these bytes or none, and all others are as they were
pub record Sets (place : Place) (wanted : Option (List ℕ)) (old new : FolderMap) : Type 0 where
  pub here : held_at new place ≡ wanted
  pub others : (other : Place) → other ≢ place → held_at new other ≡ held_at old other

-- the names of a directory's files, if it is there
abbrev pub names_of : Option (List (List ℕ × List ℕ)) → List (List ℕ)
names_of None = []
names_of (Some files) = keys_of files

-- the names of the files in that directory
abbrev pub names_in : List ℕ → FolderMap → List (List ℕ)
names_in dir folders = names_of (value_at dir folders)

-- names with their bytes, as files in that directory
abbrev pub filed : List ℕ → List (List ℕ × List ℕ) → FileMap
filed dir files = map (λ file. record { dir = dir; name = file.0; bytes = file.1 }) files

-- all files, directory by directory
abbrev pub all_filed : FolderMap → FileMap
all_filed [] = []
all_filed (folder ∷ folders) = filed folder.0 folder.1 ++ all_filed folders
