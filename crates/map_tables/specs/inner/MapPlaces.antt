-- What stands behind a look-up: the places of the maps' names, and which maps hold others.
use Rattle.std.specs.Prelude.{ℕ, Bool, true, false, List}
use Rattle.mail_base.specs.Lasts.{HasLasts}
use Rattle.mail_base.specs.declared.lines.MapClass.{MapClass}
use Rattle.mail_base.specs.declared.lines.MapClass.TheVariants.{Sequence}
use Rattle.map_tables.specs.declared.table.Table.{Table}
use Rattle.map_tables.specs.Answers.{name_of}

-- an index has the place of the last K line of each name
abbrev pub IsPlaced : List Table → List (List ℕ × ℕ) → Type 0
IsPlaced = HasLasts name_of

-- a map has the class sequence
abbrev pub is_sequence : MapClass → Bool
is_sequence (Sequence places) = true
is_sequence _ = false
