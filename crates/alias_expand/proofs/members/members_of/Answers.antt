use Rattle.std.proofs.Common.{◌∙◌, ap}
use Rattle.std.proofs.lemmas.List.Elements.{All-same}
use Rattle.alias_expand.specs.Members.{IsMember, file_members}
use Rattle.alias_expand.proofs.MemberLemmas.{file_each}
use Rattle.alias_expand.proofs.members.members_of.Goals as goal

pub returns-clause-each : goal.returns-clause-each
returns-clause-each c = All-same IsMember c.in_ok-members.members _ (c.in_ok-members.ensures ∙ ap file_members c.bytes.ensures) (file_each c.args.text.now)
