-- D lines, which set a macro (Sendmail Installation and Operation Guide, "D: Define Macro").
use Rattle.std.specs.Prelude.{◌≡◌, ℕ, List, [], ◌∷◌, codes, refl}
use Rattle.mail_base.specs.Catalogs.{with_value}
use Rattle.cf_macros.specs.Names.{split_name}

-- the macros behind a D line, by what follows the letter: all behind the name is the value, which
-- isn't expanded until the macro is used
abbrev pub with_macro : List ℕ → List (List ℕ × List ℕ) → List (List ℕ × List ℕ)
with_macro text macros = with_value (split_name text).0 (split_name text).1 macros

example : with_macro (codes "{x}a $y") ((codes "x", codes "b") ∷ [])
    ≡ (codes "x", codes "a $y") ∷ []
example = refl
