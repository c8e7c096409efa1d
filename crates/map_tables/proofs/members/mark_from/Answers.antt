use Rattle.std.proofs.Common.{ℕ, List, ap, subst, sym, ◌∙◌}
use Rattle.map_tables.specs.declared.table.Table.{Table}
use Rattle.map_tables.specs.inner.Members.{AreMarked, members_in}
use Rattle.map_tables.proofs.MemberLemmas.{closed_over, closed_with}
use Rattle.map_tables.proofs.members.mark_from.Goals as goal

pub returns-then-marked-place-clause-closed : goal.returns-then-marked-place-clause-closed
returns-then-marked-place-clause-closed c = λ closed.
    closed_with c.args.maps.now c.args.place c.args.marked.now c.mark.new.marked c.index-maps-place.result c.requires.within c.index-maps-place.is closed c.mark.ensures.keeps c.mark.ensures.others
    (subst (λ (members : List ℕ). AreMarked members c.args.place c.mark.new.marked) (c.members_in.ensures ∙ ap (λ (table : Table). members_in table.line.class) (sym c.index-maps-place.is)) c.mark.ensures.members)

pub returns-else-marked-place-clause-closed : goal.returns-else-marked-place-clause-closed
returns-else-marked-place-clause-closed c = λ closed. closed_over c.args.maps.now c.args.place c.args.marked.now closed c.if-marked-place.false
