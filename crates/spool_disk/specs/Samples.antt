-- A file, for examples (own).
use Rattle.std.specs.Prelude.{[], ◌∷◌, codes}
use Rattle.spool_disk.specs.Disk.{Place, FileMap}

-- the file tf1 of the directory q
abbrev pub draft_place : Place
draft_place = (codes "q", codes "tf1")

-- that file alone
abbrev pub one_draft : FileMap
one_draft = record { dir = codes "q"; name = codes "tf1"; bytes = codes "control" } ∷ []
