-- Values that stand for themselves (Sendmail Installation and Operation Guide, D: define macro).
use Rattle.std.specs.Prelude.{◌≡◌, ℕ, ◌==◌, List, [], ◌∷◌, if◌then◌else◌, codes, refl}
use Rattle.std.specs.List.{flat_map}

-- a byte as it is written in a macro's value that is to have this byte: a dollar sign (36) twice
abbrev pub literal_byte : ℕ → List ℕ
literal_byte b = if b == 36 then 36 ∷ 36 ∷ [] else b ∷ []

-- the value of a macro that stands for a text, whatever dollar signs that has
abbrev pub literal : List ℕ → List ℕ
literal text = flat_map literal_byte text

example : literal (codes "a$HOME") ≡ codes "a$$HOME"
example = refl
