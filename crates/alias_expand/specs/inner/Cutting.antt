-- The lines of an alias file as they are cut from the front.
use Rattle.std.specs.Prelude.{ℕ, ◌-◌, Bool, true, false, List, [], ◌∷◌, ◌++◌, length, take, if◌then◌else◌}
use Rattle.alias_expand.specs.Lines.{is_indented, numbered}
use Rattle.alias_expand.specs.declared.lines.Line.{Line}

-- the lines, with a text behind the last
abbrev pub onto_last : List ℕ → List Line → List Line
onto_last text [] = []
onto_last text (line ∷ []) = numbered line.number (line.text ++ text) ∷ []
onto_last text (line ∷ next ∷ lines) = line ∷ onto_last text (next ∷ lines)

-- a physical line without the backslash by which the next one goes on
abbrev pub part_of : List ℕ → Bool → List ℕ
part_of line is_open = if is_open then take (length line - 1) line else line

-- the lines with a physical line more, which goes on with the last of them or doesn't
abbrev pub added : Bool → ℕ → List ℕ → List Line → List Line
added true number text lines = onto_last text lines
added false number text lines = lines ++ numbered number text ∷ []

-- the lines so far with those that are joined behind them, of which the first may go on with the
-- last
abbrev pub pending : Bool → List Line → List Line → List Line
pending false lines more = lines ++ more
pending true lines [] = lines
pending true lines (next ∷ more) = onto_last next.text lines ++ more

-- a line continues the last one of these
abbrev pub continues : Line → List Line → Bool
continues line [] = false
continues line (last ∷ lines) = is_indented line.text

-- the lines with one more, which may continue the last
abbrev pub heard_on : Line → List Line → List Line
heard_on line lines =
    if continues line lines then onto_last (32 ∷ line.text) lines else lines ++ line ∷ []

-- the lines so far with those that are grouped behind them, of which the first may continue the
-- last
abbrev pub merged : List Line → List Line → List Line
merged lines [] = lines
merged lines (next ∷ more) = heard_on next lines ++ more
