use Rattle.std.proofs.Common.{arith, sym, ◌∙◌, ap}
use Rattle.rule_match.specs.Wants.{want, meets}
use Rattle.rule_match.proofs.Rowing.{least_found, none_found}
use Rattle.rule_match.proofs.rows.least_length.Goals as goal

pub returns-then-is_met-clause-some : goal.returns-then-is_met-clause-some
returns-then-is_met-clause-some g c =
    least_found (want c.args.classes.now c.args.late.now c.args.item.now) c.args.left.now c.args.place c.args.after.now c.loop-length.length (omega arith)
    (ap (meets (want c.args.classes.now c.args.late.now c.args.item.now)) (sym c.parted.ensures.front) ∙ sym c.is_met.ensures ∙ c.if-is_met.true) (sym c.has.ensures ∙ c.if-has.true) c.loop-length.invariant

pub returns-clause-none : goal.returns-clause-none
returns-clause-none g c = none_found (want c.args.classes.now c.args.late.now c.args.item.now) c.args.left.now c.args.place c.args.after.now (λ m below. c.loop-length.invariant m (omega arith))
