-- The places of K lines by their names (Sendmail Installation and Operation Guide, "K: Key File
-- Declaration": a later line of a name replaces an earlier one).
use Rattle.std.specs.Prelude.{ℕ, List, Option}
use Rattle.mail_base.specs.Lasts.{HasLasts, last_named}
use Rattle.mail_base.specs.declared.lines.MapLine.{MapLine}

-- the name of a K line
abbrev pub name_of : MapLine → List ℕ
name_of line = line.name

-- the place of the last K line of a name
abbrev pub last_place : List ℕ → List MapLine → Option ℕ
last_place = last_named name_of

-- an index has the place of the last K line of each name; only private contracts cite it
abbrev pub IsPlaced : List MapLine → List (List ℕ × ℕ) → Type 0
IsPlaced = HasLasts name_of
