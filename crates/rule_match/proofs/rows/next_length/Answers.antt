use Rattle.std.proofs.Common.{sym, ◌∙◌}
use Rattle.rule_match.specs.Wants.{want}
use Rattle.rule_match.proofs.Fitting.{choosing_is}
use Rattle.rule_match.proofs.Rowing.{fixed_takes, row_takes, row_takes_none, rows_none, popped_is, popped_none}
use Rattle.rule_match.proofs.rows.next_length.Goals as goal

pub returns-then-not-is_free-clause-some : goal.returns-then-not-is_free-clause-some
returns-then-not-is_free-clause-some g c = fixed_takes (want c.args.classes.now c.args.late.now c.args.item.now) c.args.left.now c.args.place c.fixed_length.result _ (choosing_is c.args.classes.now c.args.late.now c.args.item.now ∙ sym c.is_free.ensures ∙ c.if-not-is_free.true) c.fixed_length.ensures.some

pub returns-in_err-row-clause-none : goal.returns-in_err-row-clause-none
returns-in_err-row-clause-none g c =
    let empty = popped_none c.args.rows.now.items (λ lt. absurd (cc (c.in_err-row.ensures.variant.1 lt))) in
    rw c.from_residual.ensures (λ tokens rest left_is within are n later fits. rows_none are (choosing_is c.args.classes.now c.args.late.now c.args.item.now ∙ sym c.is_free.ensures ∙ c.if-not-is_free.false) empty)

pub returns-clause-some : goal.returns-clause-some
returns-clause-some g c =
    row_takes (want c.args.classes.now c.args.late.now c.args.item.now) c.args.left.now c.args.place c.in_ok-row.row _ _ (choosing_is c.args.classes.now c.args.late.now c.args.item.now ∙ sym c.is_free.ensures ∙ c.if-not-is_free.false) (popped_is _ _ _ c.in_ok-row.row c.pop.ensures.items c.in_ok-row.was) c.least_length.result c.least_length.ensures.some

pub returns-clause-none : goal.returns-clause-none
returns-clause-none g c =
    row_takes_none (want c.args.classes.now c.args.late.now c.args.item.now) c.args.left.now c.args.place c.in_ok-row.row _ _ (choosing_is c.args.classes.now c.args.late.now c.args.item.now ∙ sym c.is_free.ensures ∙ c.if-not-is_free.false) (popped_is _ _ _ c.in_ok-row.row c.pop.ensures.items c.in_ok-row.was) c.least_length.result c.least_length.ensures.none
