use Rattle.std.proofs.Common.{◌^◌, take, get_or, refl}
use Rattle.cf_values.specs.Times.{IsTime}
use Rattle.cf_values.specs.Refusals.{bad_byte}
use Rattle.cf_values.proofs.NumberLemmas.{refused_empty, some_text}
use Rattle.cf_values.proofs.TimeLemmas.{bad_time, time_above, time_within}
use Rattle.cf_values.proofs.timespan.time_of.Goals as goal
use Rattle.cf_values.proofs.timespan.time_of.Goals.{then-is_empty-via-then-is_empty, then-is_empty-via-else-is_empty+then-seconds}

pub returns-in_default-clause-bad : goal.returns-in_default-clause-bad
returns-in_default-clause-bad c =
    let text = c.args.text.now in
    let kept = c.loop-place.under_way in
    bad_byte (bad_time kept text c.loop-place.place (get_or text c.loop-place.place 0) c.args.unit c.loop-place.invariant c.loop-place-test.true refl (c.in_default.ensures (take c.loop-place.place text) c.loop-place.invariant))

pub returns-then-is_empty-clause-bad : goal.returns-then-is_empty-clause-bad
returns-then-is_empty-clause-bad c =
    let text = c.args.text.now in
    elim c.then-is_empty.branch [
      | then-is_empty-via-then-is_empty w ↦ refused_empty (IsTime c.args.unit) (2 ^ 60) text w.if-is_empty.ensures
      | then-is_empty-via-else-is_empty+then-seconds w ↦ time_above c.loop-place.under_way text c.loop-place.place c.total-seconds.result c.args.unit c.loop-place-test.false c.loop-place.invariant (c.total-seconds.ensures _ c.loop-place.invariant) w.if-seconds.true
    ]

pub returns-clause-ok : goal.returns-clause-ok
returns-clause-ok c =
    (time_within c.loop-place.under_way c.args.text.now c.loop-place.place c.total-seconds.result c.args.unit c.loop-place-test.false c.loop-place.invariant (some_text c.args.text.now c.if-is_empty.ensures) (c.total-seconds.ensures _ c.loop-place.invariant) c.if-seconds.false, c.if-seconds.false)
