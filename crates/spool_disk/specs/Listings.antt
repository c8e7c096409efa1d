-- The names of the files in a directory (own).
use Rattle.std.specs.Prelude.{◌↔◌, ℕ, List, Option, IsSome, Contains, IfSome}
use Rattle.std.specs.Cmp.Lexicographic.{slice_cmp}
use Rattle.std.specs.Ordering.{nat_cmp}
use Rattle.std.specs.List.Sorted.{IsStrictlySortedBy}
use Rattle.spool_disk.specs.Disk.{FileMap, bytes_at}

-- each is below the next, byte by byte
abbrev pub IsAscending : List (List ℕ) → Type 0
IsAscending names = IsStrictlySortedBy (slice_cmp nat_cmp) names

-- exactly the names of the files of that directory
abbrev pub AreNames : FileMap → List ℕ → List (List ℕ) → Type 0
AreNames files dir names =
    (name : List ℕ) → Contains names name ↔ IsSome (bytes_at files (dir, name))

-- the same names, in any order and number
abbrev pub AreSameNames : List (List ℕ) → List (List ℕ) → Type 0
AreSameNames names others = (name : List ℕ) → Contains names name ↔ Contains others name

-- names that ascend, and are exactly those of the directory where the files are told
pub record IsListing (told : Option FileMap) (dir : List ℕ) (names : List (List ℕ)) : Type 0 where
  pub ascending : IsAscending names
  pub exactly : IfSome told (λ files. AreNames files dir names)
