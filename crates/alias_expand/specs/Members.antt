-- The members of a list of addresses (Sendmail Installation and Operation Guide, "The Alias
-- Database" and ":include:"; aliases(5); what a backslash does, and where quotes of a program or a
-- file go, is our own).
use Rattle.std.specs.Prelude.{◌≡◌, ℕ, ◌-◌, Bool, false, not, ◌&&◌, ◌||◌, ◌==◌, List, [], ◌∷◌, length, take, drop, map, filter, bytes_eq, if◌then◌else◌, codes, refl}
use Rattle.std.specs.List.{flat_map, slice_split}
use Rattle.mail_base.specs.Texts.{IsAddress, IsLine, is_lf}
use Rattle.mail_base.specs.Whites.{stripped}
use Rattle.map_tables.specs.Marks.{begins_with}
use Rattle.addr_tokens.specs.Separators.{outside, pieces_from}
use Rattle.alias_expand.specs.declared.members.Member.{Member}
use Rattle.alias_expand.specs.declared.members.Member.TheVariants.{Address, Include}

-- the members of a text as they are written: white space around one is dropped, and a piece of
-- nothing else is none
abbrev pub written : List ℕ → List (List ℕ)
written text = filter (λ piece. not (length piece == 0)) (map stripped (pieces_from outside text))

-- a backslash quotes the byte behind it, unless it is quoted itself
abbrev pub escapes : Bool → ℕ → Bool
escapes escaped b = not escaped && b == 92

-- behind a double quote, and maybe behind a backslash: the first double quote that no backslash
-- quotes ends the text
abbrev pub closes_last : Bool → List ℕ → Bool
closes_last escaped [] = false
closes_last escaped (b ∷ bs) =
    if not escaped && b == 34 then length bs == 0 else closes_last (escapes escaped b) bs

-- a program `|program` or a file `/file`, by its first byte
abbrev pub is_local : List ℕ → Bool
is_local text = begins_with 124 text || begins_with 47 text

-- within one pair of double quotes
abbrev pub is_paired : List ℕ → Bool
is_paired text = begins_with 34 text && closes_last false (drop 1 text)

-- a program or a file goes without the pair of quotes that it may stand in
abbrev pub unpaired : List ℕ → List ℕ
unpaired text = if is_paired text && is_local (drop 1 text) then take (length text - 2) (drop 1 text) else text

-- what names a file of members
abbrev pub include_mark : List ℕ
include_mark = codes ":include:"

-- a member as it is written: the file of `:include:file`, or an address, which may have a backslash
-- in front, and may be a program or a file
abbrev pub member_of : List ℕ → Member
member_of text =
    if bytes_eq (take 9 text) include_mark then Include (drop 9 text) else Address (unpaired text)

-- the members of a text
abbrev pub members_in : List ℕ → List Member
members_in text = map member_of (written text)

-- what a line of a file of members says; one that begins with `#` (35) says nothing
abbrev pub line_members : List ℕ → List Member
line_members line = if begins_with 35 line then [] else members_in line

-- the members of an include or forward file: they stand by commas and by lines, so that what a line
-- leaves open ends with it
abbrev pub file_members : List ℕ → List Member
file_members text = flat_map line_members (slice_split is_lf text)

-- a member is on one line, and its address isn't empty
abbrev pub IsMember : Member → Type 0
IsMember (Address text) = IsAddress text
IsMember (Include file) = IsLine file

example :
    (members_in (codes "a, \"b,c\" <d,e>,(f, (g)),, \\h,|i,\"/j \\\"k\\\"\",:include:/l")
    ≡ Address (codes "a") ∷ Address (codes "\"b,c\" <d,e>") ∷ Address (codes "(f, (g))")
    ∷ Address (codes "\\h") ∷ Address (codes "|i") ∷ Address (codes "/j \\\"k\\\"")
    ∷ Include (codes "/l") ∷ [])
    × (file_members (codes "a, b\n#c\n\"d,e\n(f\r\n, g") ≡
    Address (codes "a") ∷ Address (codes "b") ∷ Address (codes "\"d,e") ∷ Address (codes "(f")
    ∷ Address (codes "g") ∷ [])
example = (refl, refl)
