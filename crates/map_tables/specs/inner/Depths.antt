-- What stands behind balanced bytes: a depth that goes up and down.
use Rattle.std.specs.Prelude.{◌==◌, ◌+◌, ◌-◌, ℕ, Bool, false, List, [], ◌∷◌, if◌then◌else◌}

-- from that depth on, no closing byte comes at depth 0, and the depth at the end is 0
unfoldable pub is_closed_from : ℕ → ℕ → ℕ → List ℕ → Bool
is_closed_from opens closes depth [] = depth == 0
is_closed_from opens closes depth (byte ∷ rest) =
    if byte == opens then is_closed_from opens closes (depth + 1) rest
    else if byte == closes
    then (if depth == 0 then false else is_closed_from opens closes (depth - 1) rest)
    else is_closed_from opens closes depth rest
