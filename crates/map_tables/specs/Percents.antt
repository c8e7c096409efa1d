-- What a percent sign stands for in the value of a map (Sendmail Installation and Operation Guide,
-- K and the right-hand side).
use Rattle.std.specs.Prelude.{◌≡◌, ◌==◌, ◌-◌, ℕ, List, [], ◌∷◌, ◌++◌, unwrap_or, slice_get, if◌then◌else◌, codes, refl}
use Rattle.mail_base.specs.Notes.{is_digit}

-- the key, or the argument of that number, counted from 1; one that is absent is empty
abbrev pub argument : List ℕ → List (List ℕ) → ℕ → List ℕ
argument key args number = unwrap_or (slice_get (key ∷ args) number) []

-- what a percent sign with the byte behind it stands for: a percent sign, or what a digit numbers;
-- before another byte it stands for itself
abbrev pub sign_text : List ℕ → List (List ℕ) → ℕ → List ℕ
sign_text key args byte =
    if byte == 37 then 37 ∷ []
    else if is_digit byte then argument key args (byte - 48)
    else 37 ∷ byte ∷ []

-- a value with its signs filled in; a percent sign at its end stands for itself
unfoldable pub filled : List ℕ → List (List ℕ) → List ℕ → List ℕ
filled key args [] = []
filled key args (byte ∷ []) = byte ∷ []
filled key args (byte ∷ next ∷ rest) =
    if byte == 37 then sign_text key args next ++ filled key args rest
    else byte ∷ filled key args (next ∷ rest)

example : filled (codes "k") (codes "a" ∷ []) (codes "%0-%1-%2-%%0-%x-%") ≡ codes "k-a--%0-%x-%"
unfolding filled
example = refl
