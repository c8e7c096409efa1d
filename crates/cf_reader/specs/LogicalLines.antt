-- Logical lines of a configuration file (Sendmail Installation and Operation Guide, "The Whole
-- Scoop on the Configuration File").
use Rattle.std.specs.Prelude.{◌≡◌, ℕ, ◌+◌, ◌-◌, List, [], ◌∷◌, ◌++◌, length, take, map, filter, zip, Bool, true, false, not, ◌&&◌, ◌||◌, ◌==◌, nat_lt, if◌then◌else◌, codes, refl}
use Rattle.std.specs.Str.Lines.{lines}
use Rattle.std.specs.List.{flat_map, take_while, suffix_len, position_or_len}
use Rattle.mail_base.specs.Texts.{is_blank}
use Rattle.mail_base.specs.Whites.{is_white}
use Rattle.cf_reader.specs.declared.logical.Logical.{Logical}

-- a list begins with this byte
abbrev pub begins_with : ℕ → List ℕ → Bool
begins_with byte [] = false
begins_with byte (b ∷ bs) = b == byte

-- a physical line ends at LF, and a CR before that is dropped; what follows the last LF is a line
-- where it isn't empty
abbrev pub physical_lines : List ℕ → List (List ℕ)
physical_lines text = lines text

-- a line that belongs to the one before
abbrev pub is_indented : List ℕ → Bool
is_indented [] = false
is_indented (b ∷ bs) = is_blank b

-- a line that is empty or begins with `#` (35) says nothing, nor does what belongs to it
abbrev pub is_silent : List ℕ → Bool
is_silent [] = true
is_silent (b ∷ bs) = b == 35

-- what stands between a line and one that belongs to it: the LF in an H line (72), a blank in any
-- other
abbrev pub joint_of : List ℕ → ℕ
joint_of line = if begins_with 72 line then 10 else 32

-- a line with those that belong to it
abbrev pub joined : List ℕ → List (List ℕ) → List ℕ
joined line indented = line ++ flat_map (λ more. joint_of line ∷ more) indented

-- a `#` after one of these, a backslash (92) or a dollar sign (36), begins no comment
abbrev pub is_shield : ℕ → Bool
is_shield b = (b == 92) || (b == 36)

-- a `#` (35) begins a comment, unless the byte before it is a shield
abbrev pub begins_comment : ℕ × ℕ → Bool
begins_comment (last, b) = (b == 35) && not (is_shield last)

-- what stands before the first that does; 0 stands for the byte before the first
abbrev pub before_comment : List ℕ → List ℕ
before_comment text = take (position_or_len begins_comment (zip (0 ∷ text) text)) text

-- without the white space at the end, that of tokens, of which the LF of a joint is one
abbrev pub trimmed : List ℕ → List ℕ
trimmed text = take (length text - suffix_len is_white text) text

-- `\#` stands for `#`
abbrev pub unshielded : List ℕ → List ℕ
unshielded [] = []
unshielded (b ∷ bs) = if (b == 92) && begins_with 35 bs then unshielded bs else b ∷ unshielded bs

-- a comment goes, and the white space before it
abbrev pub uncommented : List ℕ → List ℕ
uncommented text =
    let kept = before_comment text in
    unshielded (if nat_lt (length kept) (length text) then trimmed kept else kept)

-- a physical line that isn't indented, with its number and the indented lines behind it
pub record Group : Type 0 where
  pub number : ℕ
  pub line : List ℕ
  pub indented : List (List ℕ)

-- these, where the first physical line has this number; indented lines before the first of them go
abbrev pub grouped : ℕ → List (List ℕ) → List Group
grouped number [] = []
grouped number (line ∷ lines) =
    if is_indented line then grouped (number + 1) lines
    else record { number = number; line = line; indented = take_while is_indented lines }
    ∷ grouped (number + 1) lines

-- the line is no comment and isn't empty
abbrev pub is_heard : Group → Bool
is_heard group = not (is_silent group.line)

-- a line with those that belong to it, as one
abbrev pub whole : Group → Logical
whole group =
    record { number = group.number; text = uncommented (joined group.line group.indented) }

-- the logical lines of a text, each with the number of its first physical line, from 1: lines with
-- those that belong to them, without the silent ones, and without comments
abbrev pub logical_lines : List ℕ → List Logical
logical_lines text = map whole (filter is_heard (grouped 1 (physical_lines text)))

example :
    (logical_lines (codes "S1\n# none\n of it\nRa\n\tb # c\n\nR\\#d")
    ≡ (record { number = 1; text = codes "S1" })
    ∷ (record { number = 4; text = codes "Ra \tb" })
    ∷ (record { number = 7; text = codes "R#d" }) ∷ [])
    × (logical_lines (codes "R" ++ 11 ∷ 127 ∷ codes "# e") ≡ record { number = 1; text = codes "R" } ∷ [])
    × (logical_lines (codes " x\nR$# e\r\nHa: b\n c\nS2\r")
    ≡ (record { number = 2; text = codes "R$# e" })
    ∷ (record { number = 3; text = codes "Ha: b\n c" })
    ∷ (record { number = 5; text = codes "S2\r" }) ∷ [])
example = (refl, refl, refl)
