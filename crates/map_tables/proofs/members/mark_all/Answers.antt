use Rattle.std.proofs.Common.{◌≡◌, ◌+◌, ◌-◌, ◌∙◌, ℕ, arith, subst, sym}
use Rattle.map_tables.specs.inner.Members.{IsClosed}
use Rattle.map_tables.proofs.members.mark_all.Goals as goal

pub marking-preserved : goal.marking-preserved
marking-preserved c =
    let i = c.marking.invariant in
    let next : c.marking.place - 1 + 1 ≡ c.marking.place = omega (arith, c.marking-test.true) in
    record {
      members = λ member among lt. c.mark_from.ensures.keeps member (i.members member among lt);
      closed = c.mark_from.ensures.closed (subst (λ (place : ℕ). IsClosed place c.args.maps.now c.marking.marked) (sym next) i.closed);
      size = c.mark_from.ensures.length ∙ i.size;
      within = omega (arith, i.within);
    }

pub returns-clause-closed : goal.returns-clause-closed
returns-clause-closed c =
    let none : c.marking.place ≡ 0 = omega (arith, c.marking-test.false) in
    subst (λ (place : ℕ). IsClosed place c.args.maps.now c.marking.marked) none c.marking.invariant.closed
