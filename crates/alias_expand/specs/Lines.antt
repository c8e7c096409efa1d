-- The lines of an alias file (Sendmail Installation and Operation Guide, "The Alias Database";
-- aliases(5); that a line which is dropped parts no others is our own).
use Rattle.std.specs.Prelude.{◌≡◌, ℕ, ◌+◌, ◌-◌, Bool, true, false, not, ◌&&◌, ◌||◌, ◌==◌, List, [], ◌∷◌, ◌++◌, length, slice_index, take, filter, if◌then◌else◌, codes, refl}
use Rattle.std.specs.List.{slice_split}
use Rattle.mail_base.specs.Texts.{is_lf}
use Rattle.mail_base.specs.Whites.{is_white}
use Rattle.map_tables.specs.Marks.{begins_with}
use Rattle.alias_expand.specs.declared.lines.Line.{Line}

-- a line with its number
abbrev pub numbered : ℕ → List ℕ → Line
numbered number text = record { number = number; text = text }

-- a text ends in a backslash (92)
abbrev pub ends_open : List ℕ → Bool
ends_open text = not (length text == 0) && slice_index text (length text - 1) == 92

-- the next physical line goes on with one that ends in a backslash, unless it begins a line with
-- `#` (35)
abbrev pub goes_on : Bool → List ℕ → Bool
goes_on behind line = (behind || not (begins_with 35 line)) && ends_open line

-- a line without its backslash, and what goes on with it; the last physical line has no LF, so its
-- backslash stays
abbrev pub spliced : Line → List Line → List Line
spliced line [] = line ∷ []
spliced line (next ∷ lines) =
    numbered line.number (take (length line.text - 1) line.text ++ next.text) ∷ lines

-- physical lines from this number on, each with what goes on with it; the first of them may be what
-- goes on with a line behind which it stands
abbrev pub joined : Bool → ℕ → List (List ℕ) → List Line
joined behind number [] = []
joined behind number (line ∷ lines) =
    if goes_on behind line then spliced (numbered number line) (joined true (number + 1) lines)
    else numbered number line ∷ joined false (number + 1) lines

-- a line that is empty or begins with `#` says nothing
abbrev pub is_heard : Line → Bool
is_heard line = not (length line.text == 0) && not (begins_with 35 line.text)

-- a line that begins with white space continues the one before
abbrev pub is_indented : List ℕ → Bool
is_indented [] = false
is_indented (b ∷ bs) = is_white b

-- a line before others: it takes in what continues it, whose LF becomes a blank (32)
abbrev pub attached : Line → List Line → List Line
attached line [] = line ∷ []
attached line (next ∷ lines) =
    if is_indented next.text then numbered line.number (line.text ++ 32 ∷ next.text) ∷ lines
    else line ∷ next ∷ lines

-- the lines, each with those that continue it; where the first is a continuation, it stays one
abbrev pub grouped : List Line → List Line
grouped [] = []
grouped (line ∷ lines) = attached line (grouped lines)

-- the physical lines, of which each but the last ends at an LF, as the lines that they make
abbrev pub heard_lines : List ℕ → List Line
heard_lines text = filter is_heard (joined false 1 (slice_split is_lf text))

-- the lines of an alias file, each with the number of its first physical line
abbrev pub logical_lines : List ℕ → List Line
logical_lines text = grouped (heard_lines text)

example :
    (logical_lines (codes "a: b,\n# c \\\n\td\n\ne: f\\\n#g\n")
    ≡ numbered 1 (codes "a: b, \td") ∷ numbered 5 (codes "e: f#g") ∷ [])
    × (logical_lines (codes " a: b\n c\\") ≡ numbered 1 (codes " a: b  c\\") ∷ [])
example = (refl, refl)
