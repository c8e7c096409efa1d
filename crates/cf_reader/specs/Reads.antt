-- What reading gives, what it asks of the files, and the first fault of a table (our own).
use Rattle.std.specs.Prelude.{◌≡◌, Bool, true, false, List, [], ◌∷◌, Option, Some, None, Result, Ok, Err, if◌then◌else◌}
use Rattle.mail_base.specs.declared.config.Config.{Config}
use Rattle.cf_reader.specs.declared.fault.CfFault.{CfFault}
use Rattle.cf_reader.specs.declared.fault.CfFault.TheVariants as whole
use Rattle.cf_reader.specs.declared.fault.Fault.{Fault}

-- a table of faults, each with whether its condition holds: the first whose condition holds
abbrev pub first_fault : List (Fault × Bool) → Option Fault
first_fault [] = None
first_fault ((fault, holds) ∷ rows) = if holds then Some fault else first_fault rows

-- the files failed
abbrev pub is_failed : {V : Type 0} → Result V CfFault → Bool
is_failed (Ok value) = false
is_failed (Err (whole.Refused number fault)) = false
is_failed (Err whole.FilesFault) = true
is_failed (Err whole.NoMemory) = false

-- what was returned is what the definition gives, unless the files failed or memory ran out
abbrev pub Gives : Result Config CfFault → Result Config CfFault → Type 0
Gives (Ok config) meant = meant ≡ Ok config
Gives (Err (whole.Refused number fault)) meant = meant ≡ Err (whole.Refused number fault)
Gives (Err whole.FilesFault) meant = Unit {0}
Gives (Err whole.NoMemory) meant = Unit {0}
