use Rattle.std.proofs.Common.{◌≡◌, ◌+◌, ◌-◌, ◌≤◌, ◌||◌, length, drop, arith, sym, ◌∙◌, ap, subst}
use Rattle.rule_match.specs.Wants.{want}
use Rattle.rule_match.specs.inner.Rows.{has, IsLater, IsStart}
use Rattle.rule_match.proofs.Rowing.{IsSetIf, set_bits, keep_bits, starts_now, fresh_now, later_now, row_more}
use Rattle.rule_match.proofs.rows.row_before.Goals as goal
use Rattle.rule_match.proofs.rows.row_before.Goals.{then-is_start, else-is_start}

pub loop-end-preserved-then-later : goal.loop-end-preserved-then-later
loop-end-preserved-then-later g c =
    let i = c.loop-end.invariant in
    let tokens = c.args.tokens.now in
    let place = c.loop-end.end - 1 in
    let is_place : place + 1 ≡ c.loop-end.end = omega arith in
    let within : place ≤ length tokens = omega (arith, i.below) in
    let w = want c.args.classes.now c.args.late.now c.args.item.now in
    let set : IsSetIf c.loop-end.row c.if-is_start.row place c.is_start.result = elim c.if-is_start.branch [
      | then-is_start w ↦ rw (w.row-is, w.if-is_start.true) (set_bits c.loop-end.row w.set.new.self place w.set.ensures)
      | else-is_start w ↦ rw (w.row-is, w.if-is_start.false) (keep_bits c.loop-end.row place (i.fresh place (omega arith)))
    ] in
    let left : c.parted.result.1.now ≡ drop place tokens = c.parted.ensures.back in
    let is : IsLater c.args.after.now (place + 1) (place + length (drop place tokens)) c.loop-end.later → IsStart w (drop place tokens) place c.args.after.now c.is_start.result = λ known.
    subst (λ xs. IsStart w xs place c.args.after.now c.is_start.result) left (c.is_start.ensures (subst (λ xs. IsLater c.args.after.now (place + 1) (place + length xs) c.loop-end.later) (sym left) known)) in
    let more : c.loop-end.later ≡ (c.loop-end.later || has c.args.after.now place) = c.if-later.true ∙ sym (ap (λ b. b || has c.args.after.now place) c.if-later.true) in
    record {
      below = omega (arith, i.below);
      starts = starts_now tokens w c.args.after.now c.loop-end.row c.if-is_start.row c.loop-end.end place is_place within c.loop-end.later i.later i.starts i.fresh c.is_start.result is set;
      fresh = fresh_now tokens w c.args.after.now c.loop-end.row c.if-is_start.row c.loop-end.end place is_place within c.loop-end.later i.later i.starts i.fresh c.is_start.result is set;
      later = later_now tokens w c.args.after.now c.loop-end.row c.if-is_start.row c.loop-end.end place is_place within c.loop-end.later i.later i.starts i.fresh c.is_start.result is set c.loop-end.later more;
    }

pub loop-end-preserved : goal.loop-end-preserved
loop-end-preserved g c =
    let i = c.loop-end.invariant in
    let tokens = c.args.tokens.now in
    let place = c.loop-end.end - 1 in
    let is_place : place + 1 ≡ c.loop-end.end = omega arith in
    let within : place ≤ length tokens = omega (arith, i.below) in
    let w = want c.args.classes.now c.args.late.now c.args.item.now in
    let set : IsSetIf c.loop-end.row c.if-is_start.row place c.is_start.result = elim c.if-is_start.branch [
      | then-is_start w ↦ rw (w.row-is, w.if-is_start.true) (set_bits c.loop-end.row w.set.new.self place w.set.ensures)
      | else-is_start w ↦ rw (w.row-is, w.if-is_start.false) (keep_bits c.loop-end.row place (i.fresh place (omega arith)))
    ] in
    let left : c.parted.result.1.now ≡ drop place tokens = c.parted.ensures.back in
    let is : IsLater c.args.after.now (place + 1) (place + length (drop place tokens)) c.loop-end.later → IsStart w (drop place tokens) place c.args.after.now c.is_start.result = λ known.
    subst (λ xs. IsStart w xs place c.args.after.now c.is_start.result) left (c.is_start.ensures (subst (λ xs. IsLater c.args.after.now (place + 1) (place + length xs) c.loop-end.later) (sym left) known)) in
    let more : c.has-later.result ≡ (c.loop-end.later || has c.args.after.now place) = c.has-later.ensures ∙ sym (ap (λ b. b || has c.args.after.now place) c.if-later.false) in
    record {
      below = omega (arith, i.below);
      starts = starts_now tokens w c.args.after.now c.loop-end.row c.if-is_start.row c.loop-end.end place is_place within c.loop-end.later i.later i.starts i.fresh c.is_start.result is set;
      fresh = fresh_now tokens w c.args.after.now c.loop-end.row c.if-is_start.row c.loop-end.end place is_place within c.loop-end.later i.later i.starts i.fresh c.is_start.result is set;
      later = later_now tokens w c.args.after.now c.loop-end.row c.if-is_start.row c.loop-end.end place is_place within c.loop-end.later i.later i.starts i.fresh c.is_start.result is set c.has-later.result more;
    }

pub returns : goal.returns
returns g c = λ rest is. row_more c.args.tokens.now (want c.args.classes.now c.args.late.now c.args.item.now) rest c.args.after.now c.loop-end.row is (λ place within. c.loop-end.invariant.starts place (omega arith) within)
