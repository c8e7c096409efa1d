-- How the end of a path is computed. The law `one_path` says that it is where Paths has it.
use Rattle.std.specs.Prelude.{ℕ, zero, suc, ◌+◌, ◌==◌, List, [], ◌∷◌, take, drop, Option, Some, None, option_map, option_and_then, if◌then◌else◌}
use Rattle.smtp_lines.specs.Paths.{Parts}

-- how many bytes a quoted string has behind its first double quote, or None where it has no other
abbrev pub quote_length : List ℕ → Option ℕ
quote_length [] = None
quote_length (b ∷ []) = if b == 34 then Some 1 else None
quote_length (b ∷ c ∷ text) =
    if b == 34 then Some 1
    else if b == 92 then option_map (λ n. n + 2) (quote_length text)
    else option_map suc (quote_length (c ∷ text))

-- how many bytes stand before the > that ends a path, where so many at the front are of a quoted
-- string
abbrev pub path_end : List ℕ → ℕ → Option ℕ
path_end [] n = None
path_end (b ∷ text) (suc n) = option_map suc (path_end text n)
path_end (b ∷ text) zero =
    if b == 62 then Some 0
    else if b == 34 then option_map suc (option_and_then (λ n. path_end text n) (quote_length text))
    else option_map suc (path_end text zero)

-- the path that ends at a place, and what is after its >
abbrev pub parts_at : List ℕ → Option ℕ → Option Parts
parts_at text None = None
parts_at text (Some n) = Some (record { front = take n text; back = drop (n + 1) text })

-- the path whose < stands before the text, and what is after its >
abbrev pub angle_parts : List ℕ → Option Parts
angle_parts text = parts_at text (path_end text 0)
