-- White space (our own: each byte up to the space, and 127).
use Rattle.std.specs.Prelude.{◌≡◌, ℕ, ◌-◌, Bool, List, drop, length, nat_le, take, ◌||◌, ◌==◌, codes, refl}
use Rattle.std.specs.List.{prefix_len, suffix_len}

abbrev pub is_white : ℕ → Bool
is_white byte = nat_le byte 32 || byte == 127

-- a text without the white space at its front
abbrev pub without_whites : List ℕ → List ℕ
without_whites text = drop (prefix_len is_white text) text

-- a text without the white space at both ends
abbrev pub stripped : List ℕ → List ℕ
stripped text = let rest = without_whites text in
    take (length rest - suffix_len is_white rest) rest

example : (without_whites (codes " \ta b ") ≡ codes "a b ")
    × (stripped (codes " a b\t") ≡ codes "a b")
example = (refl, refl)
