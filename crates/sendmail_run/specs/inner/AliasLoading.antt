-- What reading alias files gives, step by step.
use Rattle.std.specs.Prelude.{◌≡◌, ℕ, Bool, true, false, List, ◌++◌, Option, Some, None, Result, Ok, Err}
use Rattle.mail_edge.specs.Seen.{FileMap}
use Rattle.alias_expand.specs.declared.aliases.Alias.{Alias}
use Rattle.sendmail_run.specs.declared.fault.AliasesFault.{AliasesFault}
use Rattle.sendmail_run.specs.declared.fault.AliasesFault.TheVariants as faults
use Rattle.sendmail_run.specs.AliasFiles.{fault_of, first_fault, lines_in, lines_of, unless_fault}

module _ {V : Type 0} where
  -- the files failed
  abbrev pub is_files_fault : Result V AliasesFault → Bool
  is_files_fault (Ok value) = false
  is_files_fault (Err (faults.NoFile name)) = false
  is_files_fault (Err (faults.Refused name line)) = false
  is_files_fault (Err faults.FilesFault) = true
  is_files_fault (Err faults.NoMemory) = false

  -- what was returned is what is meant, unless the files failed or memory ran out
  abbrev pub Gives : Result V AliasesFault → Result V AliasesFault → Type 0
  Gives (Ok value) meant = meant ≡ Ok value
  Gives (Err (faults.NoFile name)) meant = meant ≡ Err (faults.NoFile name)
  Gives (Err (faults.Refused name line)) meant = meant ≡ Err (faults.Refused name line)
  Gives (Err faults.FilesFault) meant = Unit {0}
  Gives (Err faults.NoMemory) meant = Unit {0}

-- the lines of files, or the fault of the first that isn't taken
abbrev pub aliases_by : FileMap → List (List ℕ) → Result (List Alias) AliasesFault
aliases_by files names = unless_fault (first_fault files names) (lines_in files names)

-- lines in front of others, or the fault of a file
abbrev pub behind : List Alias → Result (List Alias) AliasesFault → Result (List Alias) AliasesFault
behind lines (Ok more) = Ok (lines ++ more)
behind lines (Err fault) = Err fault

-- a file was read in which this was found: its lines stand behind the others, or it has a fault
abbrev pub Takes : List ℕ → Option (List ℕ) → List Alias → List Alias
    → Result (Unit {0}) AliasesFault → Type 0
Takes name text old new (Ok u) = (fault_of name text ≡ None) × (new ≡ old ++ lines_of text)
Takes name text old new (Err (faults.NoFile file)) = fault_of name text ≡ Some (faults.NoFile file)
Takes name text old new (Err (faults.Refused file line)) =
    fault_of name text ≡ Some (faults.Refused file line)
Takes name text old new (Err faults.FilesFault) = Unit {0}
Takes name text old new (Err faults.NoMemory) = Unit {0}
