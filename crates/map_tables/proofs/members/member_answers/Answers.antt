use Rattle.std.proofs.Common.{◌≡◌, ◌∙◌, sym, subst, Bool, List, arith}
use Rattle.map_tables.specs.inner.Members.{IsClosed}
use Rattle.map_tables.proofs.MemberLemmas.{if_members_agree, written_back}
use Rattle.map_tables.proofs.members.member_answers.Goals as goal

pub asked-requires-clause-closed : goal.asked-requires-clause-closed
asked-requires-clause-closed c =
    let back : c.deref.result.now ≡ c.mark_all.new.marked = c.deref.ensures.value ∙ written_back _ c.mark_all.new.marked _ (omega (arith, c.mark_all.ensures.length, c.deref_mut.ensures.len)) in
    subst (λ (marked : List Bool). IsClosed 0 c.args.maps.now marked) (sym back) c.mark_all.ensures.closed

pub returns : goal.returns
returns c =
    let back : c.deref.result.now ≡ c.mark_all.new.marked = c.deref.ensures.value ∙ written_back _ c.mark_all.new.marked _ (omega (arith, c.mark_all.ensures.length, c.deref_mut.ensures.len)) in
    if_members_agree c.args.hosts.now c.args.key.now c.args.args.now c.args.maps.now c.mark_all.new.marked c.args.members.now c.deref.result.now c.asked.result back
    c.mark_all.ensures.members c.asked.ensures.agrees c.asked.ensures.length
