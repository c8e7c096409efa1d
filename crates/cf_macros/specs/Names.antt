-- Names of macros and classes: one byte, or a word in braces (Sendmail Installation and Operation
-- Guide, "D: Define Macro" and "C and F: Define Classes").
use Rattle.std.specs.Prelude.{◌≡◌, ℕ, ◌+◌, List, [], ◌∷◌, take, drop, Option, None, Some, position, ◌==◌, if◌then◌else◌, codes, refl}

-- an open brace (123) is a name itself where nothing closes it (own)
abbrev pub braced_name : List ℕ → Option ℕ → List ℕ × List ℕ
braced_name text None = (123 ∷ [], text)
braced_name text (Some size) = (take size text, drop (size + 1) text)

-- the name that a text begins with, and what is behind it: `{x}` is x, and the empty text has the
-- empty name
abbrev pub split_name : List ℕ → List ℕ × List ℕ
split_name [] = ([], [])
split_name (b ∷ text) =
    if b == 123 then braced_name text (position (λ c. c == 125) text) else (b ∷ [], text)

example :
    (split_name (codes "wmx a") ≡ (codes "w", codes "mx a"))
    × (split_name (codes "{word}a}b") ≡ (codes "word", codes "a}b"))
    × (split_name (codes "{word") ≡ (codes "{", codes "word"))
example = (refl, refl, refl)
