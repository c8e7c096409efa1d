-- Alias files (Sendmail Installation and Operation Guide, "The Alias Database"; aliases(5); which
-- lines are refused is our own).
use Rattle.std.specs.Prelude.{◌≡◌, ℕ, ◌+◌, Bool, not, ◌&&◌, ◌||◌, ◌==◌, List, [], ◌∷◌, length, take, drop, map, Option, None, Some, option_map, is_none, nat_lt, if◌then◌else◌, codes, refl}
use Rattle.std.specs.List.{filter_map, find, list_any}
use Rattle.std.specs.Str.{str_eq_ignore_ascii_case}
use Rattle.mail_base.specs.Texts.{without_quotes}
use Rattle.mail_base.specs.Whites.{stripped}
use Rattle.addr_tokens.specs.Members.{cannot_be_cut}
use Rattle.addr_tokens.specs.Scans.{most_tokens}
use Rattle.alias_expand.specs.declared.aliases.Alias.{Alias}
use Rattle.alias_expand.specs.declared.fault.AliasFault.{AliasFault}
use Rattle.alias_expand.specs.declared.fault.AliasFault.TheVariants.{Refused, NoMemory}
use Rattle.alias_expand.specs.declared.lines.Line.{Line}
use Rattle.alias_expand.specs.declared.members.Member.{Member}
use Rattle.alias_expand.specs.declared.members.Member.TheVariants.{Address}
use Rattle.addr_tokens.specs.declared.place.Separator.TheVariants.{Colon}
use Rattle.alias_expand.specs.Lines.{is_indented, logical_lines}
use Rattle.alias_expand.specs.Members.{member_of, written}
use Rattle.addr_tokens.specs.Separators.{length_to, outside}

-- a name goes without white space around it and without its double quotes (34)
abbrev pub name_of : List ℕ → List ℕ
name_of text = without_quotes (stripped text)

-- a name and its members as they are written: there are both, and each member can be cut
abbrev pub alias_by : List ℕ → List (List ℕ) → Option Alias
alias_by name texts =
    if length name == 0 || length texts == 0 || list_any cannot_be_cut texts then None
    else Some (record { name = name; members = map member_of texts })

-- what a line says: a name, a colon and members; none where it is refused
abbrev pub alias_of : List ℕ → Option Alias
alias_of line =
    let end = length_to Colon outside line in
    if not (is_indented line) && nat_lt end (length line)
    then alias_by (name_of (take end line)) (written (drop (end + 1) line)) else None

-- a line that is refused: a continuation with no line before it, or one without a colon, without a
-- name or without a member, or with one that can't be cut into tokens, whatever operators there are
-- and angles aside
abbrev pub is_refused : Line → Bool
is_refused line = is_none (alias_of line.text)

-- the number of the first line that is refused, if one is
abbrev pub first_refused : List ℕ → Option ℕ
first_refused text = option_map (λ line. line.number) (find is_refused (logical_lines text))

-- what the lines of a file say
abbrev pub file_aliases : List ℕ → List Alias
file_aliases text = filter_map (λ line. alias_of line.text) (logical_lines text)

-- a file is refused at its first line that is; want of memory is no fault of it
abbrev pub ExplainsRefusal : List ℕ → AliasFault → Type 0
ExplainsRefusal text (Refused line) = first_refused text ≡ Some line
ExplainsRefusal text NoMemory = Unit {0}

-- an alias has a name, without ascii case
abbrev pub has_name : List ℕ → Alias → Bool
has_name name alias = str_eq_ignore_ascii_case name alias.name

-- the members of the first alias that has the name
abbrev pub members_named : List ℕ → List Alias → Option (List Member)
members_named name aliases = option_map (λ alias. alias.members) (find (has_name name) aliases)

example :
    (file_aliases (codes "a : b\n\"c:d\": e, f\n") ≡
    (record { name = codes "a"; members = Address (codes "b") ∷ [] })
    ∷ (record { name = codes "c:d"; members = Address (codes "e") ∷ Address (codes "f") ∷ [] }) ∷ [])
    × (first_refused (codes "# x\na: b\n\nc d\n") ≡ Some 4)
    × (first_refused (codes "\n a: b\n") ≡ Some 2)
    × (first_refused (codes "a: b\n c\n") ≡ None)
unfolding most_tokens
example = (refl, refl, refl, refl)
