use Rattle.std.proofs.Common.{◌-◌, length, arith, ◌∙◌, sym, subst}
use Rattle.rule_match.specs.Wants.{wants}
use Rattle.rule_match.specs.inner.Steps.{front_width, IsFirst}
use Rattle.rule_match.proofs.Fitting.{choosing_any, class_any, fits_front, fits_whole}
use Rattle.rule_match.proofs.Choosing.{place_fixed, no_place_wide, found_free, missed_free}
use Rattle.rule_match.proofs.matcher.place_of.Goals as goal

pub returns-in_err-width-clause-none : goal.returns-in_err-width-clause-none
returns-in_err-width-clause-none c =
    rw c.from_residual.ensures (no_place_wide (wants c.args.classes.now c.args.late.now c.args.after.now) c.args.left.now c.args.least (front_width c.args.late.now c.args.after.now)
    (fits_front c.args.classes.now c.args.late.now c.args.after.now) (omega (arith, c.in_err-width.ensures.none)))

pub returns-then-not-chooses-clause-some : goal.returns-then-not-chooses-clause-some
returns-then-not-chooses-clause-some c =
    let f = c.in_ok-width.ensures.some in
    let ws = wants c.args.classes.now c.args.late.now c.args.after.now in
    subst (λ w. IsFirst ws c.args.left.now c.args.least (length c.args.left.now - w)) (sym f.0)
    (place_fixed ws c.args.left.now c.args.least (front_width c.args.late.now c.args.after.now) (λ more lengths. fits_whole c.args.classes.now c.args.late.now c.args.after.now more lengths (sym f.1 ∙ c.if-not-chooses.true)) (omega (arith, f.0, f.2)))

pub returns-clause-some : goal.returns-clause-some
returns-clause-some c =
    let f = c.in_ok-width.ensures.some in
    let free = choosing_any c.args.classes.now c.args.late.now c.args.after.now ∙ sym f.1 ∙ c.if-not-chooses.false in
    let plain = class_any c.args.classes.now c.args.late.now c.args.after.now ∙ c.requires in
    found_free (wants c.args.classes.now c.args.late.now c.args.after.now) c.args.left.now c.args.least (length c.args.left.now - c.in_ok-width.width) (omega arith) plain free c.first_front.result c.first_front.ensures.some

pub returns-clause-none : goal.returns-clause-none
returns-clause-none c =
    let f = c.in_ok-width.ensures.some in
    missed_free (wants c.args.classes.now c.args.late.now c.args.after.now) c.args.left.now c.args.least (length c.args.left.now - c.in_ok-width.width) (front_width c.args.late.now c.args.after.now)
    (fits_front c.args.classes.now c.args.late.now c.args.after.now) (omega (arith, f.0, f.2)) c.first_front.result c.first_front.ensures.none
