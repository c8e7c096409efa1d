use Rattle.std.proofs.Common.{◌+◌, rules, sym, ◌∙◌, subst}
use Rattle.std.proofs.lemmas.Bool.{eqb-true, eqb-false}
use Rattle.std.proofs.lemmas.List.{nil_from_length}
use Rattle.rule_match.proofs.Going.{goes_meta, goes_other, goes_end, goes_over, goes_stuck}
use Rattle.rule_match.proofs.walk.found_by.Goals as goal
use Rattle.rule_match.proofs.walk.found_by.Goals.{then-is_meta, else-is_meta}

pub returns-in_default-next-clause-none : goal.returns-in_default-next-clause-none
returns-in_default-next-clause-none g c = λ no.
    goes_stuck c.args.classes.now c.args.late.now c.args.pattern.now c.args.tokens.now c.loop-item.lists.now c.loop-item.items.now c.in-Some.item.now c.in-Some.after.now c.loop-item.left.now c.loop-item.cuts c.loop-item.start
    c.loop-item.invariant.goes c.in-Some.ensures.cases.0 _ c.lists_after-others.ensures c.in_default-next.ensures.none

pub loop-item-preserved : goal.loop-item-preserved
loop-item-preserved g c =
    let i = c.loop-item.invariant in
    let next = c.in-Some-next.ensures.some in
    let left = c.parted.ensures.back in
    elim c.if-is_meta.branch [
      | then-is_meta w ↦ record {
        goes = goes_meta c.args.classes.now c.args.late.now c.args.pattern.now c.args.tokens.now c.loop-item.lists.now c.loop-item.items.now c.in-Some.item.now c.in-Some.after.now c.in-Some.ensures.cases.0 _ c.lists_after-others.ensures c.loop-item.left.now _ c.loop-item.cuts _ c.loop-item.start c.in-Some-next.length
            i.goes next.0 c.parted.ensures.back (search rules) (search rules);
        serves = subst (λ l. g.L.Lengths.serves c.next.new.self c.args.classes.now c.lists_after-others.result.now c.in-Some.after.now l (c.loop-item.start + c.in-Some-next.length)) (sym left) next.1;
      }
      | else-is_meta w ↦ record {
        goes = goes_other c.args.classes.now c.args.late.now c.args.pattern.now c.args.tokens.now c.loop-item.lists.now c.loop-item.items.now c.in-Some.item.now c.in-Some.after.now c.in-Some.ensures.cases.0 _ c.lists_after-others.ensures c.loop-item.left.now _ c.loop-item.cuts _ c.loop-item.start c.in-Some-next.length
            i.goes next.0 c.parted.ensures.back (search rules) (search rules);
        serves = subst (λ l. g.L.Lengths.serves c.next.new.self c.args.classes.now c.lists_after-others.result.now c.in-Some.after.now l (c.loop-item.start + c.in-Some-next.length)) (sym left) next.1;
      }
    ]

pub returns-clause-some : goal.returns-clause-some
returns-clause-some g c = λ e.
    goes_end c.args.classes.now c.args.late.now c.args.pattern.now c.args.tokens.now c.loop-item.lists.now c.loop-item.items.now c.loop-item.left.now c.loop-item.cuts c.loop-item.start c.loop-item.invariant.goes (nil_from_length _ c.in_default.ensures.cases) (eqb-true _ _ (sym c.is_empty.ensures ∙ e))

pub returns-clause-none : goal.returns-clause-none
returns-clause-none g c = λ e.
    goes_over c.args.classes.now c.args.late.now c.args.pattern.now c.args.tokens.now c.loop-item.lists.now c.loop-item.items.now c.loop-item.left.now c.loop-item.cuts c.loop-item.start c.loop-item.invariant.goes (nil_from_length _ c.in_default.ensures.cases) (eqb-false _ _ (sym c.is_empty.ensures ∙ e))
