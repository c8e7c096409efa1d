-- What stands behind the aliases: the places of their names, and that lines have members.
use Rattle.std.specs.Prelude.{List, All}
use Rattle.mail_base.specs.Places.{Held, IsIndexed}
use Rattle.alias_expand.specs.Aliases.{has_name}
use Rattle.alias_expand.specs.Members.{IsMember}
use Rattle.alias_expand.specs.declared.aliases.Alias.{Alias}

-- the members of an alias are members
abbrev pub HasMembers : Alias → Type 0
HasMembers alias = All IsMember alias.members

-- the place of the first line of each name is held for it, and lines have members
pub record IsKept (lines : List Alias) (held : Held) : Type 0 where
  pub indexed : IsIndexed has_name lines held
  pub each : All HasMembers lines
