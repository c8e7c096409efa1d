use Rattle.std.proofs.Common.{◌≡◌, ◌+◌, ◌<◌, List, ℕ, length, get_or, arith, ap, sym, ◌∙◌, ◌++◌}
use Rattle.map_tables.proofs.ScanLemmas.{gathers, gathered, skips_quoted, keeps_unquoted, keeps_none}
use Rattle.map_tables.proofs.quotes.unquoted.Goals as goal
use Rattle.map_tables.proofs.quotes.unquoted.Goals.{else-byte-eq92-via-then-byte-eq92+else-place-text, else-byte-eq92-via-else-byte-eq92}

pub loop-place-preserved-then-place-text : goal.loop-place-preserved-then-place-text
loop-place-preserved-then-place-text c =
    ap (λ (r : List ℕ). c.loop-place.plain ++ r) (sym (skips_quoted c.args.text.now c.loop-place.place c.if-place-text.true c.if-byte-eq92.true)) ∙ c.loop-place.invariant

pub loop-place-preserved : goal.loop-place-preserved
loop-place-preserved c =
    let text = c.args.text.now in
    let place = c.loop-place.place in
    let free : get_or text place 0 ≡ 92 → place + 1 < length text → ⊥ = elim c.else-byte-eq92.branch [
      | else-byte-eq92-via-then-byte-eq92+else-place-text w ↦ λ e lt. omega (arith, w.if-place-text.false, lt)
      | else-byte-eq92-via-else-byte-eq92 w ↦ λ e lt. w.if-byte-eq92.false e
    ] in
    gathers c.loop-place.plain _ _ _ _ _ c.in_ok-push.ensures.ok (keeps_unquoted text place c.loop-place-test.true free) c.loop-place.invariant

pub returns : goal.returns
returns c = gathered c.loop-place.plain _ _ (keeps_none c.args.text.now c.loop-place.place c.loop-place-test.false) c.loop-place.invariant
