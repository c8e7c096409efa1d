use Rattle.std.proofs.lemmas.List.Elements.{All-same}
use Rattle.alias_expand.specs.inner.AliasPlaces.{HasMembers}
use Rattle.alias_expand.proofs.AliasLemmas.{put_each}
use Rattle.alias_expand.proofs.MemberLemmas.{file_aliases_each}
use Rattle.alias_expand.proofs.aliases.Aliases.read.Goals as goal

pub invariant_of-self-2 : goal.invariant_of-self-2
invariant_of-self-2 c = record {
  indexed = c.put.ensures.indexed;
  each = put_each c.put.result c.self.inside.lines c.in_ok-aliases.aliases c.put.new.lines c.put.ensures.ok c.put.ensures.err c.self.invariant.each
      (All-same HasMembers c.in_ok-aliases.aliases _ c.in_ok-aliases.ensures.ok (file_aliases_each c.bytes.result.now));
}
