-- The senders of the members of an alias (Sendmail Installation and Operation Guide, "The Alias
-- Database", owners; that a list which isn't one address counts as one user is our own).
use Rattle.std.specs.Prelude.{◌≡◌, ℕ, Bool, not, ◌&&◌, ◌||◌, ◌==◌, List, [], ◌∷◌, ◌++◌, map, Option, None, Some, unwrap_or, bytes_eq, if◌then◌else◌, codes, refl}
use Rattle.std.specs.List.{list_all}
use Rattle.mail_base.specs.Notes.{blanked}
use Rattle.mail_base.specs.Drawing.{null_sender}
use Rattle.mail_base.specs.Whites.{is_white}
use Rattle.cf_macros.specs.Expansion.{host_name}
use Rattle.ruleset_run.specs.Sites.{Macros}
use Rattle.alias_expand.specs.declared.aliases.Alias.{Alias}
use Rattle.alias_expand.specs.declared.members.Member.{Member}
use Rattle.alias_expand.specs.declared.members.Member.TheVariants.{Address}
use Rattle.alias_expand.specs.Aliases.{members_named}
use Rattle.alias_expand.specs.Members.{is_local}

-- the owner of an alias
abbrev pub owner_name : List ℕ → List ℕ
owner_name name = codes "owner-" ++ name

-- a path in its angles, on one line
abbrev pub bracketed : List ℕ → List ℕ
bracketed text = 60 ∷ map blanked text ++ 62 ∷ []

-- neither white space, nor a double quote (34), a backslash (92), or what bounds a comment (40, 41)
-- or an angle (60, 62)
abbrev pub is_bare_byte : ℕ → Bool
is_bare_byte b = not (is_white b
    || (b == 34 || (b == 92 || (b == 40 || (b == 41 || (b == 60 || b == 62))))))

-- an address of such bytes, which is neither a program nor a file
abbrev pub is_bare : List ℕ → Bool
is_bare text = list_all is_bare_byte text && not (is_local text)

-- the one member, where it is such an address
abbrev pub sole_bare : List Member → Option (List ℕ)
sole_bare (Address text ∷ []) = if is_bare text then Some text else None
sole_bare members = None

-- the sender that an owner with these members gives: the one member that is such an address, and
-- else the owner at the host
abbrev pub owner_sender : List ℕ → List ℕ → List Member → List ℕ
owner_sender owner host members = bracketed (unwrap_or (sole_bare members) (owner ++ 64 ∷ host))

-- the sender of the members of an alias, by what its owner is; where it has none the sender stays
abbrev pub owned : List ℕ → List ℕ → List ℕ → Option (List Member) → List ℕ
owned sender owner host None = sender
owned sender owner host (Some members) = owner_sender owner host members

-- a null sender stays in any case
abbrev pub sender_under : List Alias → Macros → List ℕ → List ℕ → List ℕ
sender_under aliases macros sender name =
    if bytes_eq sender null_sender then sender
    else owned sender (owner_name name) (host_name macros)
    (members_named (owner_name name) aliases)

abbrev address : List ℕ → Member
address text = Address text

example :
    (owned (codes "<bob@c>") (codes "owner-l") (codes "mx") (Some (address (codes "cid") ∷ []))
    ≡ codes "<cid>")
    × (owned (codes "<bob@c>") (codes "owner-l") (codes "mx")
    (Some (address (codes "cid") ∷ address (codes "bob") ∷ [])) ≡ codes "<owner-l@mx>")
    × (owned (codes "<bob@c>") (codes "owner-l") (codes "mx") (Some (address (codes "|cid") ∷ []))
    ≡ codes "<owner-l@mx>")
    × (owned (codes "<bob@c>") (codes "owner-l") (codes "mx") None ≡ codes "<bob@c>")
example = (refl, refl, refl, refl)
