use Rattle.std.proofs.Common.{◌+◌, ◌∙◌, arith, get_or, refl}
use Rattle.cf_values.specs.Numbers.{IsNumber}
use Rattle.cf_values.specs.Refusals.{bad_byte}
use Rattle.cf_values.proofs.NumberLemmas.{bad_number, digits_more, number_more, number_above, refused_empty}
use Rattle.cf_values.proofs.numeral.number_of.Goals as goal
use Rattle.cf_values.proofs.numeral.number_of.Goals.{then-is_empty-via-then-is_empty, then-is_empty-via-else-is_empty+then-number-above}

pub returns-in_default-clause-bad : goal.returns-in_default-clause-bad
returns-in_default-clause-bad c =
    let text = c.args.text.now in
    bad_byte (bad_number text c.loop-place.place (get_or text c.loop-place.place 0) c.loop-place-test.true c.loop-place.invariant.digits refl c.in_default.ensures.none)

pub loop-place-preserved : goal.loop-place-preserved
loop-place-preserved c =
    let text = c.args.text.now in
    let place = c.loop-place.place in
    let b = get_or text place 0 in
    let is = c.in-Some.ensures.some in
    record {
      digits = digits_more text place b c.loop-place-test.true refl c.loop-place.invariant.digits (omega (arith, is.0), omega (arith, is.0, is.1));
      number = c.with_digit-number.ensures ∙ number_more text place b c.in-Some.digit (c.args.most + 1) c.loop-place.number c.loop-place-test.true refl is.0 c.loop-place.invariant.number;
    }

pub returns-then-is_empty-clause-bad : goal.returns-then-is_empty-clause-bad
returns-then-is_empty-clause-bad c =
    let text = c.args.text.now in
    elim c.then-is_empty.branch [
      | then-is_empty-via-then-is_empty w ↦ refused_empty IsNumber c.args.most text w.if-is_empty.ensures
      | then-is_empty-via-else-is_empty+then-number-above w ↦ number_above text c.loop-place.place c.args.most c.loop-place.number c.loop-place-test.false c.loop-place.invariant.digits c.loop-place.invariant.number w.if-number-above.true
    ]
