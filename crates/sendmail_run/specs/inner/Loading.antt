-- What reading the files of maps gives, step by step.
use Rattle.std.specs.Prelude.{◌≡◌, ℕ, Bool, true, false, List, [], ◌++◌, Option, Result, Ok, Err}
use Rattle.std.specs.List.{cons_option, find}
use Rattle.mail_edge.specs.Seen.{FileMap}
use Rattle.map_tables.specs.declared.files.MapFile.{MapFile}
use Rattle.map_tables.specs.declared.named.Named.{Named}
use Rattle.sendmail_run.specs.declared.fault.MapsFault.{MapsFault}
use Rattle.sendmail_run.specs.declared.fault.MapsFault.TheVariants as faults
use Rattle.sendmail_run.specs.MapFiles.{found_among, is_missing, lacks, named, unless_missing}

module _ {V : Type 0} where
  -- the files failed
  abbrev pub is_files_fault : Result V MapsFault → Bool
  is_files_fault (Ok value) = false
  is_files_fault (Err (faults.NoFile name)) = false
  is_files_fault (Err faults.FilesFault) = true
  is_files_fault (Err faults.NoMemory) = false

  -- what was returned is what is meant, unless the files failed or memory ran out
  abbrev pub Gives : Result V MapsFault → Result V (List ℕ) → Type 0
  Gives (Ok value) meant = meant ≡ Ok value
  Gives (Err (faults.NoFile name)) meant = meant ≡ Err name
  Gives (Err faults.FilesFault) meant = Unit {0}
  Gives (Err faults.NoMemory) meant = Unit {0}

-- the texts of files, or the name of the first that is missing
abbrev pub texts_by : FileMap → List MapFile → Result (List Named) (List ℕ)
texts_by files wanted = unless_missing (find (is_missing files) wanted) (found_among files wanted)

-- texts in front of others, or the name of a file that is missing
abbrev pub behind : List Named → Result (List Named) (List ℕ) → Result (List Named) (List ℕ)
behind texts (Ok more) = Ok (texts ++ more)
behind texts (Err name) = Err name

-- a file was read in which this was found: it stands behind the others where it is there
abbrev pub Takes : MapFile → Option (List ℕ) → List Named → List Named
    → Result (Unit {0}) MapsFault → Type 0
Takes wanted text old new (Ok u) =
    (lacks wanted text ≡ false) × (new ≡ old ++ cons_option (named wanted text) [])
Takes wanted text old new (Err (faults.NoFile name)) =
    (lacks wanted text ≡ true) × (name ≡ wanted.name)
Takes wanted text old new (Err faults.FilesFault) = Unit {0}
Takes wanted text old new (Err faults.NoMemory) = Unit {0}
