-- The members of a text as they are cut from the front.
use Rattle.std.specs.Prelude.{ℕ, ◌==◌, List, [], ◌∷◌, length, if◌then◌else◌}

-- a piece that is a member, and none where it is empty
abbrev pub kept : List ℕ → List (List ℕ)
kept piece = if length piece == 0 then [] else piece ∷ []
