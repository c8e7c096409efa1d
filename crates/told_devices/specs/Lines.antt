-- What stands in a line of the log (own).
use Rattle.std.specs.Prelude.{◌≡◌, ℕ, ◌≤◌, ◌≢◌, ◌-◌, ◌==◌, ◌||◌, List, ◌++◌, length, take, map, All, nat_lt, if◌then◌else◌, codes, refl}

-- a byte that is no control character
abbrev pub IsShown : ℕ → Type 0
IsShown byte = (32 ≤ byte) × (byte ≢ 127)

-- at most 1,023 bytes, and no control character: so no line ends within it
pub record IsLine (bytes : List ℕ) : Type 0 where
  pub short : length bytes ≤ 1023
  pub plain : All IsShown bytes

-- a control character becomes a question mark
abbrev pub shown : ℕ → ℕ
shown byte = if nat_lt byte 32 || byte == 127 then 63 else byte

-- a line, and behind it as much of a text as there is room for
abbrev pub with_text : List ℕ → List ℕ → List ℕ
with_text line text = line ++ map shown (take (1023 - length line) text)

example : with_text (codes "to=") (codes "a\nb") ≡ codes "to=a?b"
example = refl
