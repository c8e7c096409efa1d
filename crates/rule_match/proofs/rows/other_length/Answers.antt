use Rattle.std.proofs.Common.{arith, sym, ◌∙◌, ap}
use Rattle.rule_match.specs.Wants.{want, meets}
use Rattle.rule_match.proofs.Fitting.{choosing_is, width_is}
use Rattle.rule_match.proofs.Choosing.{next_fixed, no_next_fixed, no_room_fixed}
use Rattle.rule_match.proofs.rows.other_length.Goals as goal

pub returns-then-width-left-clause-none : goal.returns-then-width-left-clause-none
returns-then-width-left-clause-none c =
    let w = want c.args.classes.now c.args.late.now c.args.item.now in
    no_room_fixed w c.args.left.now (choosing_is c.args.classes.now c.args.late.now c.args.item.now ∙ c.requires) _ (c.width-width.ensures ∙ sym (width_is c.args.classes.now c.args.late.now c.args.item.now)) (omega arith)

pub returns-then-is_met-clause-some : goal.returns-then-is_met-clause-some
returns-then-is_met-clause-some c =
    let w = want c.args.classes.now c.args.late.now c.args.item.now in
    next_fixed w c.args.left.now (choosing_is c.args.classes.now c.args.late.now c.args.item.now ∙ c.requires) _ (c.width-width.ensures ∙ sym (width_is c.args.classes.now c.args.late.now c.args.item.now)) (omega arith)
    (ap (meets w) (sym c.parted.ensures.front) ∙ sym c.is_met.ensures ∙ c.if-is_met.true)

pub returns-else-is_met-clause-none : goal.returns-else-is_met-clause-none
returns-else-is_met-clause-none c =
    let w = want c.args.classes.now c.args.late.now c.args.item.now in
    no_next_fixed w c.args.left.now (choosing_is c.args.classes.now c.args.late.now c.args.item.now ∙ c.requires) _ (c.width-width.ensures ∙ sym (width_is c.args.classes.now c.args.late.now c.args.item.now))
    (ap (meets w) (sym c.parted.ensures.front) ∙ sym c.is_met.ensures ∙ c.if-is_met.false)
