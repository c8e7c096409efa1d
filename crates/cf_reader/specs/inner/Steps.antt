-- Steps of reading an F line, and of taking any line, as code has them.
use Rattle.std.specs.Prelude.{◌≡◌, ◌==◌, ℕ, Bool, List, Option, Some, None, Result, Ok, Err, codes, if◌then◌else◌}
use Rattle.std.specs.List.{list_any}
use Rattle.cf_reader.specs.declared.class_line.ClassLine.{ClassLine}
use Rattle.cf_reader.specs.declared.fault.CfFault.{CfFault}
use Rattle.cf_reader.specs.declared.fault.CfFault.TheVariants as whole
use Rattle.cf_reader.specs.declared.fault.Fault.{Fault}
use Rattle.cf_reader.specs.declared.fault.Fault.TheVariants.{UnknownLine}
use Rattle.cf_reader.specs.declared.fault.LineStop.{LineStop}
use Rattle.cf_reader.specs.declared.fault.LineStop.TheVariants as stops
use Rattle.cf_reader.specs.declared.state.State.{State}
use Rattle.mail_base.specs.declared.mailer.Group.{Group}
use Rattle.cf_reader.specs.ClassLines.{words_of_file}
use Rattle.cf_reader.specs.Configuration.{with_group}

-- the files have this text, unless they failed or memory ran out
abbrev pub IsRead : Result (Option (List ℕ)) LineStop → Option (List ℕ) → Type 0
IsRead (Ok found) text = found ≡ text
IsRead (Err (stops.Refused fault)) text = ⊥
IsRead (Err stops.FilesFault) text = Unit {0}
IsRead (Err stops.NoMemory) text = Unit {0}

-- the class of that name with the words of a text, where that is there
abbrev pub class_in : List ℕ → Option (List ℕ) → Option ClassLine
class_in name None = None
class_in name (Some text) = Some (record { class = name; words = words_of_file text })

-- a line is taken: the state is the one behind it where it has no fault; else there is its fault,
-- unless memory ran out
abbrev pub Steps : Result (Unit {0}) LineStop → Option Fault → State → State → Type 0
Steps (Ok _) fault after new = (fault ≡ None) × (new ≡ after)
Steps (Err (stops.Refused found)) fault after new = fault ≡ Some found
Steps (Err stops.FilesFault) fault after new = ⊥
Steps (Err stops.NoMemory) fault after new = Unit {0}

-- the same of a line that asks the files, which may fail
abbrev pub Seeks : Result (Unit {0}) LineStop → Option Fault → State → State → Type 0
Seeks (Ok _) fault after new = (fault ≡ None) × (new ≡ after)
Seeks (Err (stops.Refused found)) fault after new = fault ≡ Some found
Seeks (Err stops.FilesFault) fault after new = Unit {0}
Seeks (Err stops.NoMemory) fault after new = Unit {0}

-- a letter whose lines are ignored
abbrev pub is_ignored : ℕ → Bool
is_ignored letter = list_any (λ known. letter == known) (codes "VTELX")

-- the fault of a line whose letter says nothing here
abbrev pub fault_of_other : ℕ → Option Fault
fault_of_other letter = if is_ignored letter then None else Some UnknownLine

-- why reading stops at the line of this number
abbrev pub fault_at : ℕ → LineStop → CfFault
fault_at number (stops.Refused fault) = whole.Refused number fault
fault_at number stops.FilesFault = whole.FilesFault
fault_at number stops.NoMemory = whole.NoMemory

-- the same, with the line's number
abbrev pub Goes : Result (Unit {0}) CfFault → ℕ → Option Fault → State → State → Type 0
Goes (Ok _) number fault after new = (fault ≡ None) × (new ≡ after)
Goes (Err (whole.Refused line found)) number fault after new =
    (line ≡ number) × (fault ≡ Some found)
Goes (Err whole.FilesFault) number fault after new = Unit {0}
Goes (Err whole.NoMemory) number fault after new = Unit {0}

-- the groups with one more, if there is one
abbrev pub with_group_at : List ℕ → List (List ℕ × Group) → Option (List ℕ × Group)
    → List (List ℕ × Group)
with_group_at directory groups None = groups
with_group_at directory groups (Some named) = with_group directory groups named
