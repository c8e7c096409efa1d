use Rattle.std.proofs.Common.{◌+◌, ◌-◌, ◌<◌, true, false, List, ◌∷◌, [], ◌++◌, length, take, drop, ap, sym, subst, ◌∙◌, arith}
use Rattle.std.proofs.lemmas.List.{length-take, take_rest}
use Rattle.smtp_lines.specs.declared.line.Line.{Line}
use Rattle.smtp_lines.specs.declared.line.Mode.{Mode}
use Rattle.smtp_lines.specs.Reader.{asked_after}
use Rattle.smtp_lines.specs.inner.Readings.{ReadsOn}
use Rattle.smtp_lines.proofs.ReadLemmas.{asked_after-push, SoFar, so_far_start, so_far_line, asked_line, all_read}
use Rattle.smtp_lines.proofs.reading.read.Goals as goal

pub lines-init : goal.lines-init
lines-init c = record {
  within = omega arith;
  quiet = ap (asked_after false) c.new-lines.ensures;
  so_far = λ begun is none cr.
      let P : List Line → Type 0 = λ x. SoFar c.args.mode begun c.args.bytes.now x c.args.mode c.args.kept.now c.args.after_cr 0 in
      subst P (sym c.new-lines.ensures) (so_far_start c.args.mode begun c.args.bytes.now c.args.kept.now c.args.after_cr is none cr);
}

pub returns-in_default-clause-reads : goal.returns-in_default-clause-reads
returns-in_default-clause-reads c =
    λ begun is none cr.
    let so = c.lines.invariant.so_far begun is none cr in
    all_read _ _ _ _ _ _ _ _ _ (take_rest c.args.bytes.now c.lines.used) so (c.in_default.ensures.ends so.begun_now so.none so.cr)

pub returns-then-asks-clause-reads : goal.returns-then-asks-clause-reads
returns-then-asks-clause-reads c =
    λ begun is none cr.
    let so = c.lines.invariant.so_far begun is none cr in
    let e = c.in-Some.ensures.ends so.begun_now so.none so.cr in
    let rest = take (length c.args.bytes.now - c.lines.used) (drop c.lines.used c.args.bytes.now) in
    let some : 0 < length (take c.in-Some.end rest) = omega (arith, length-take c.in-Some.end rest, c.in-Some.ensures.some, c.in-Some.ensures.within) in
    let line = c.in_ok-line.ensures so.begun_now e.content so.is_kept some e.whole in
    let P : List Line → Mode → Type 0 = λ x m. ReadsOn c.args.mode begun c.args.bytes.now x m (c.lines.used + c.in-Some.end) true in
    subst (λ x. P x c.mode_after-mode.result) (sym c.in_ok-push.ensures.ok)
    (subst (P (c.lines.lines ++ c.in_ok-line.line ∷ [])) (sym c.mode_after-mode.ensures)
    (asked_line _ _ _ _ _ _ _ _ _ _ _ (take_rest c.args.bytes.now c.lines.used) so e line (sym c.asks-asks.ensures ∙ c.if-asks.true)))

pub lines-preserved : goal.lines-preserved
lines-preserved c = record {
  within = omega (arith, c.in-Some.ensures.within);
  quiet = ap (asked_after false) c.in_ok-push.ensures.ok ∙ asked_after-push false c.lines.lines c.in_ok-line.line ∙ sym c.asks-asks.ensures ∙ c.if-asks.false;
  so_far = λ begun is none cr.
      let so = c.lines.invariant.so_far begun is none cr in
      let e = c.in-Some.ensures.ends so.begun_now so.none so.cr in
      let rest = take (length c.args.bytes.now - c.lines.used) (drop c.lines.used c.args.bytes.now) in
      let some : 0 < length (take c.in-Some.end rest) = omega (arith, length-take c.in-Some.end rest, c.in-Some.ensures.some, c.in-Some.ensures.within) in
      let line = c.in_ok-line.ensures so.begun_now e.content so.is_kept some e.whole in
      let P : List Line → Mode → Type 0 = λ x m. SoFar c.args.mode begun c.args.bytes.now x m [] false (c.lines.used + c.in-Some.end) in
      subst (λ x. P x c.mode_after-mode.result) (sym c.in_ok-push.ensures.ok)
      (subst (P (c.lines.lines ++ c.in_ok-line.line ∷ [])) (sym c.mode_after-mode.ensures)
      (so_far_line _ _ _ _ _ _ _ _ _ _ _ (take_rest c.args.bytes.now c.lines.used) so e line (sym c.asks-asks.ensures ∙ c.if-asks.false)));
}

pub returns-then-asks-clause-asks : goal.returns-then-asks-clause-asks
returns-then-asks-clause-asks c =
    sym (ap (asked_after false) c.in_ok-push.ensures.ok ∙ asked_after-push false c.lines.lines c.in_ok-line.line ∙ sym c.asks-asks.ensures ∙ c.if-asks.true)
