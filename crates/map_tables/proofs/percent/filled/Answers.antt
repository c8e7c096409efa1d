use Rattle.std.proofs.Common.{◌≡◌, ◌+◌, ◌<◌, length, get_or, arith}
use Rattle.map_tables.proofs.ScanLemmas.{gathers, gathered, fills_sign, fills_plain, fills_none}
use Rattle.map_tables.proofs.percent.filled.Goals as goal
use Rattle.map_tables.proofs.percent.filled.Goals.{else-byte-eq37-via-then-byte-eq37+else-place-value, else-byte-eq37-via-else-byte-eq37}

pub loop-place-preserved-then-place-value : goal.loop-place-preserved-then-place-value
loop-place-preserved-then-place-value c =
    gathers c.loop-place.text _ _ _ _ _ c.in_ok-put_sign.ensures (fills_sign c.args.key.now c.args.args.now c.args.value.now c.loop-place.place c.if-place-value.true c.if-byte-eq37.true) c.loop-place.invariant

pub loop-place-preserved : goal.loop-place-preserved
loop-place-preserved c =
    let text = c.args.value.now in
    let place = c.loop-place.place in
    let free : get_or text place 0 ≡ 37 → place + 1 < length text → ⊥ = elim c.else-byte-eq37.branch [
      | else-byte-eq37-via-then-byte-eq37+else-place-value w ↦ λ e lt. omega (arith, w.if-place-value.false, lt)
      | else-byte-eq37-via-else-byte-eq37 w ↦ λ e lt. w.if-byte-eq37.false e
    ] in
    gathers c.loop-place.text _ _ _ _ _ c.in_ok-push.ensures.ok (fills_plain c.args.key.now c.args.args.now text place c.loop-place-test.true free) c.loop-place.invariant

pub returns : goal.returns
returns c = gathered c.loop-place.text _ _ (fills_none c.args.key.now c.args.args.now c.args.value.now c.loop-place.place c.loop-place-test.false) c.loop-place.invariant
