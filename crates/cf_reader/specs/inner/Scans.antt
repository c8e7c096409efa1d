-- How the code reads lines: what its private contracts cite. What is read here is proved to be what
-- LogicalLines says.
use Rattle.std.specs.Prelude.{ℕ, ◌+◌, List, [], ◌∷◌, ◌&&◌, ◌||◌, ◌==◌, not, if◌then◌else◌}
use Rattle.std.specs.List.{take_while}
use Rattle.cf_reader.specs.declared.logical.Logical.{Logical}
use Rattle.cf_reader.specs.LogicalLines.{is_indented, is_silent, is_shield, joined, physical_lines, uncommented}

-- what stands before the comment, read on after this byte
abbrev pub read_on : ℕ → List ℕ → List ℕ
read_on last [] = []
read_on last (b ∷ bs) = if (b == 35) && not (is_shield last) then [] else b ∷ read_on b bs

-- each physical line that is neither indented nor silent, joined with the indented ones after it
abbrev pub numbered_from : ℕ → List (List ℕ) → List Logical
numbered_from number [] = []
numbered_from number (line ∷ lines) =
    if is_indented line || is_silent line then numbered_from (number + 1) lines
    else record { number = number; text = uncommented (joined line (take_while is_indented lines)) }
    ∷ numbered_from (number + 1) lines

-- the lines of a text that follows so many physical lines
abbrev pub left : ℕ → List ℕ → List Logical
left number text = numbered_from (number + 1) (physical_lines text)
