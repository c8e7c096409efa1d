-- The homes of users (own: one file for all, in the form of a host table).
use Rattle.std.specs.Prelude.{◌≡◌, ℕ, List, [], ◌∷◌, Option, None, Some, codes, refl}
use Rattle.std.specs.List.{filter_map}
use Rattle.std.specs.Str.Lines.{lines}
use Rattle.mail_base.specs.Words.{words_of}
use Rattle.mail_base.specs.Catalogs.{value_at}
use Rattle.map_tables.specs.Hosts.{before_comment}
use Rattle.map_tables.specs.Tables.{first_pairs}

-- a user and a path; further words say nothing, and fewer words neither
abbrev pub home_by : List (List ℕ) → Option (List ℕ × List ℕ)
home_by [] = None
home_by (user ∷ []) = None
home_by (user ∷ path ∷ more) = Some (user, path)

-- what a line says, up to a `#`
abbrev pub home_line : List ℕ → Option (List ℕ × List ℕ)
home_line line = home_by (words_of (before_comment line))

-- what the lines of a file say
abbrev pub home_lines : List ℕ → List (List ℕ × List ℕ)
home_lines text = filter_map home_line (lines text)

-- the homes of a file: each user with the path of its first line
abbrev pub homes_of : List ℕ → List (List ℕ × List ℕ)
homes_of text = first_pairs (home_lines text)

-- the home of a user
abbrev pub home_of : List ℕ → List (List ℕ × List ℕ) → Option (List ℕ)
home_of user homes = value_at user homes

example :
    (homes_of (codes "ann /home/ann x\nbob # /b\nann /other\r\nBob\t/b # c\n") ≡
    (codes "ann", codes "/home/ann") ∷ (codes "Bob", codes "/b") ∷ [])
example = refl
