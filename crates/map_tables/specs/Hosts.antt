-- The host table (hosts(5); which bytes are white space is our own).
use Rattle.std.specs.Prelude.{◌≡◌, ◌||◌, ◌==◌, ℕ, Bool, List, [], ◌∷◌, Option, None, Some, option_map, codes, refl}
use Rattle.std.specs.List.{before_first, find, filter_map, list_any}
use Rattle.std.specs.Str.{str_eq_ignore_ascii_case}
use Rattle.std.specs.Str.Lines.{lines}
use Rattle.mail_base.specs.Words.{words_of}
use Rattle.map_tables.specs.declared.hosts.HostLine.{HostLine}

-- text from `#` (35) on says nothing
abbrev pub before_comment : List ℕ → List ℕ
before_comment line = before_first (λ byte. byte == 35) line

-- an address, a name and further names; fewer than two words say nothing
abbrev pub host_of : List (List ℕ) → Option HostLine
host_of [] = None
host_of (address ∷ []) = None
host_of (address ∷ name ∷ aliases) =
    Some (record { address = address; name = name; aliases = aliases })

-- what a line of the table says
abbrev pub host_line : List ℕ → Option HostLine
host_line line = host_of (words_of (before_comment line))

-- what the lines of the table say
abbrev pub host_lines : List ℕ → List HostLine
host_lines text = filter_map host_line (lines text)

-- a line has a name, without ascii case
abbrev pub has_name : List ℕ → HostLine → Bool
has_name name line =
    str_eq_ignore_ascii_case name line.name || list_any (str_eq_ignore_ascii_case name) line.aliases

-- the first line that has the name
abbrev pub line_of : List ℕ → List HostLine → Option HostLine
line_of name hosts = find (has_name name) hosts

-- the address of a name
abbrev pub host_address : List ℕ → List HostLine → Option (List ℕ)
host_address name hosts = option_map (λ line. line.address) (line_of name hosts)

-- the first name of the line that has the name
abbrev pub host_name : List ℕ → List HostLine → Option (List ℕ)
host_name name hosts = option_map (λ line. line.name) (line_of name hosts)

example : (host_line (codes "127.0.0.1 far.example far # x")
    ≡ Some (record {
      address = codes "127.0.0.1";
      name = codes "far.example";
      aliases = codes "far" ∷ [];
    }))
    × (host_line (codes "127.0.0.1 # far") ≡ None)
example = (refl, refl)
