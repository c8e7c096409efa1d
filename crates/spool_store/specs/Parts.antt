-- The entry that a part of a commit writes, and the files before and after it (own).
use Rattle.std.specs.Prelude.{◌⊎◌, ℕ, List}
use Rattle.spool_disk.specs.Disk.{FileMap}
use Rattle.spool_store.specs.Entries.{Stored, Table}
use Rattle.spool_store.specs.Settled.{StandsFor}
use Rattle.spool_store.specs.declared.part.Part.{Part}

-- the entry that a part writes, with the body of its change
abbrev pub entry_of : List ℕ → Part → Stored
entry_of body part =
    record { id = part.entry.id; dir = part.entry.dir; control = part.entry.control; body = body }

-- the files stand for the table before or after
abbrev pub IsEitherTable : List (List ℕ) → Table → Table → FileMap → Type 0
IsEitherTable dirs before after files = StandsFor dirs before files ⊎ StandsFor dirs after files
