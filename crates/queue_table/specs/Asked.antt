-- What a list of steps leaves in the files, where some of the steps ask commands of a table (own).
-- `asked` gives the commands of a step, whatever its type is: none, or one.
use Rattle.std.specs.Prelude.{◌≡◌, ◌⊎◌, ℕ, ◌<◌, ◌≤◌, ◌-◌, ◌^◌, List, [], ◌∷◌, ◌++◌, Bool, true, false, IfSome, All, Contains}
use Rattle.std.specs.List.{flat_map}
use Rattle.spool_disk.specs.Disk.{FileMap}
use Rattle.spool_store.specs.Entries.{Stored, Table}
use Rattle.spool_store.specs.Parts.{IsEitherTable}
use Rattle.spool_store.specs.Settled.{StandsFor}
use Rattle.queue_table.specs.Commands.{Command, after, applied, changed_by}

-- the entry of that id has not the last revision
abbrev pub IsLow : Table → ℕ → Type 0
IsLow table id =
    (s : Stored) → Contains table.entries s → s.id ≡ id → s.control.revision < 2 ^ 64 - 1

-- a stop in a command leaves the table before or after: the entry that it changes, if it is one,
-- has not the last revision
abbrev pub IsStoppable : Table → Command → Type 0
IsStoppable table command = IfSome (changed_by command) (IsLow table)

-- the same of each command of a list, on the table after those before it
abbrev pub AllStop : Table → List Command → Type 0
AllStop table [] = Unit {0}
AllStop table (command ∷ commands) =
    IsStoppable table command × AllStop (after table command) commands

-- no revision is above a number
abbrev pub AreLow : ℕ → Table → Type 0
AreLow most table = All (λ s. s.control.revision ≤ most) table.entries

-- the table after some steps
abbrev pub table_by : {X : Type 0} → (X → List Command) → Table → List X → Table
table_by asked table steps = applied table (flat_map asked steps)

-- the files stand for the table after a front of the steps
pub record IsFront {X : Type 0} (asked : X → List Command) (dirs : List (List ℕ)) (table : Table)
    (steps : List X) (files : FileMap) : Type 0 where
  pub done : List X
  pub rest : List X
  pub whole : steps ≡ done ++ rest
  pub stands : StandsFor dirs (table_by asked table done) files

-- the last step asks a command, which failed: the files stand for the table before or after it
pub record LacksLast {X : Type 0} (asked : X → List Command) (dirs : List (List ℕ)) (table : Table)
    (steps : List X) (files : FileMap) : Type 0 where
  pub done : List X
  pub last : X
  pub command : Command
  pub whole : steps ≡ done ++ last ∷ []
  pub asks : asked last ≡ command ∷ []
  pub stands : IsEitherTable dirs (table_by asked table done)
      (after (table_by asked table done) command) files

-- what is left where the spool failed: at a command, or at a call that changes no table
abbrev pub IsLeftBroken : {X : Type 0} → (X → List Command) → List (List ℕ) → Table → List X
    → FileMap → Type 0
IsLeftBroken asked dirs table steps files =
    StandsFor dirs (table_by asked table steps) files ⊎ LacksLast asked dirs table steps files

-- the files that steps leave, whether the spool went on or failed
abbrev pub Leaves : {X : Type 0} → (X → List Command) → List (List ℕ) → Table → List X → Bool
    → FileMap → Type 0
Leaves asked dirs table steps true = StandsFor dirs (table_by asked table steps)
Leaves asked dirs table steps false = IsLeftBroken asked dirs table steps

-- a stop in any of the commands leaves the table before or after it
abbrev pub AreStoppable : {X : Type 0} → (X → List Command) → Table → List X → Type 0
AreStoppable asked table steps = AllStop table (flat_map asked steps)
