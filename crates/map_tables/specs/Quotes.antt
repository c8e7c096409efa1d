-- Keys without their quotes (Sendmail Installation and Operation Guide, K: the class dequote; which
-- texts can't be scanned is our own).
use Rattle.std.specs.Prelude.{◌≡◌, ◌==◌, ◌&&◌, ℕ, Bool, not, List, [], ◌∷◌, Option, None, Some, filter, length, map, nat_le, if◌then◌else◌, codes, refl}
use Rattle.std.specs.List.{list_all, list_any}
use Rattle.mail_base.specs.Texts.{without_quotes}
use Rattle.mail_base.specs.Whites.{is_white}

-- the bytes that no backslash (92) quotes, without the backslashes that quote; a last one quotes
-- nothing
unfoldable pub unquoted : List ℕ → List ℕ
unquoted [] = []
unquoted (byte ∷ []) = byte ∷ []
unquoted (byte ∷ next ∷ rest) = if byte == 92 then unquoted rest else byte ∷ unquoted (next ∷ rest)

-- the fronts of a text, from the empty one to the whole
unfoldable pub fronts : List ℕ → List (List ℕ)
fronts [] = [] ∷ []
fronts (byte ∷ rest) = [] ∷ map (λ front. byte ∷ front) (fronts rest)

-- how often a byte stands in a text
abbrev pub count : ℕ → List ℕ → ℕ
count byte text = length (filter (λ other. other == byte) text)

-- no front has more closing bytes than opening ones, and the whole has as many of both
abbrev pub is_balanced : ℕ → ℕ → List ℕ → Bool
is_balanced opens closes text =
    list_all (λ front. nat_le (count closes front) (count opens front)) (fronts text)
    && count opens text == count closes text

-- no backslash is left, and angle brackets (60, 62) and parentheses (40, 41) are balanced, each
-- kind by itself
abbrev pub is_closed : List ℕ → Bool
is_closed text =
    not (list_any (λ byte. byte == 92) text) && (is_balanced 60 62 text && is_balanced 40 41 text)

-- a text that can be scanned as one word
abbrev pub is_scannable : List ℕ → Bool
is_scannable text = not (list_any is_white text) && is_closed (unquoted text)

-- a key without its double quotes (34), where it has one and what is left can be scanned
abbrev pub dequoted : List ℕ → Option (List ℕ)
dequoted key = if list_any (λ byte. byte == 34) key && is_scannable (without_quotes key)
    then Some (without_quotes key) else None

example : (dequoted (codes "\"a.b\"") ≡ Some (codes "a.b")) × (dequoted (codes "ab") ≡ None)
    × (dequoted (codes "\"a b\"") ≡ None) × (dequoted (codes "\"a\\") ≡ None)
    × (dequoted (codes "\"\\<a>\"") ≡ None) × (dequoted (codes "\"<(>)\"") ≡ Some (codes "<(>)"))
    × (dequoted (codes "\")(\"") ≡ None)
unfolding unquoted fronts
example = (refl, refl, refl, refl, refl, refl, refl)
