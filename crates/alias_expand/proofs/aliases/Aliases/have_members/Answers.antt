use Rattle.std.proofs.Common.{List, All, subst}
use Rattle.alias_expand.specs.declared.aliases.Alias.{Alias}
use Rattle.alias_expand.specs.inner.AliasPlaces.{HasMembers}
use Rattle.alias_expand.proofs.aliases.Aliases.have_members.Goals as goal

pub returns : goal.returns
returns c = subst (λ (lines : List Alias). All HasMembers lines) c.self.view_is c.self.invariant.each
