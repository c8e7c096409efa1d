-- What stands at the front of a line (our own: white space is each byte up to the space, and 127).
use Rattle.std.specs.Prelude.{◌≡◌, ◌||◌, ◌==◌, ℕ, Bool, true, false, List, [], ◌∷◌, codes, refl}
use Rattle.std.specs.List.{list_all}
use Rattle.mail_base.specs.Whites.{is_white}

-- a list begins with this byte
abbrev pub begins_with : ℕ → List ℕ → Bool
begins_with byte [] = false
begins_with byte (b ∷ bytes) = b == byte

-- a line that is blank or begins with `#` (35) says nothing
abbrev pub is_silent : List ℕ → Bool
is_silent line = begins_with 35 line || list_all is_white line

example : (is_silent (codes "# k") ≡ true) × (is_silent (codes " \t") ≡ true)
    × (is_silent (codes " # k") ≡ false)
example = (refl, refl, refl)
