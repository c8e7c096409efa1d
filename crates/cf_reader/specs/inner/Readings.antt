-- What reading one line, or a part of it, gives. Only private contracts cite it.
use Rattle.std.specs.Prelude.{◌≡◌, Bool, true, false, Option, Some, None, Result, Ok, Err}
use Rattle.cf_reader.specs.declared.fault.Fault.{Fault}
use Rattle.cf_reader.specs.declared.fault.LineStop.{LineStop}
use Rattle.cf_reader.specs.declared.fault.LineStop.TheVariants as stops

module _ {V : Type 0} where
  -- the files failed
  abbrev pub is_files_fault : Result V LineStop → Bool
  is_files_fault (Ok value) = false
  is_files_fault (Err (stops.Refused found)) = false
  is_files_fault (Err stops.FilesFault) = true
  is_files_fault (Err stops.NoMemory) = false

  -- a line is read: its value where it has no fault, else its fault, unless memory runs out; it
  -- asks no file
  abbrev pub Reads : Result V LineStop → Option Fault → V → Type 0
  Reads (Ok value) fault meant = (fault ≡ None) × (value ≡ meant)
  Reads (Err (stops.Refused found)) fault meant = fault ≡ Some found
  Reads (Err stops.FilesFault) fault meant = ⊥
  Reads (Err stops.NoMemory) fault meant = Unit {0}

  -- what an option holds is given, and where it holds nothing this fault, unless memory runs out;
  -- it asks no file
  abbrev pub Opens : Fault → Result V LineStop → Option V → Type 0
  Opens fault (Ok value) meant = meant ≡ Some value
  Opens fault (Err (stops.Refused found)) meant = (found ≡ fault) × (meant ≡ None)
  Opens fault (Err stops.FilesFault) meant = ⊥
  Opens fault (Err stops.NoMemory) meant = Unit {0}

  -- the same as `Reads` of a line that asks the files, which may fail
  abbrev pub Finds : Result V LineStop → Option Fault → V → Type 0
  Finds (Ok value) fault meant = (fault ≡ None) × (value ≡ meant)
  Finds (Err (stops.Refused found)) fault meant = fault ≡ Some found
  Finds (Err stops.FilesFault) fault meant = Unit {0}
  Finds (Err stops.NoMemory) fault meant = Unit {0}
