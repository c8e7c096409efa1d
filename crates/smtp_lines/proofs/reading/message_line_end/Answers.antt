use Rattle.std.proofs.Common.{◌≡◌, false, length, subst, sym, ◌∙◌, arith}
use Rattle.std.proofs.Math.Seq.{take-length}
use Rattle.std.proofs.lemmas.Bool.{both_ways}
use Rattle.smtp_lines.proofs.EndLemmas.{message_ends, split_ends, crlf_join, crlf_before}
use Rattle.smtp_lines.specs.declared.line.Mode.TheVariants.{Message}
use Rattle.smtp_lines.specs.Stream.{has_end}
use Rattle.smtp_lines.proofs.reading.message_line_end.Goals as goal
use Rattle.smtp_lines.proofs.reading.message_line_end.Goals.{else-after_cr-via-then-after_cr+else-begins_in_lf, else-after_cr-via-else-after_cr}

pub returns-then-begins_in_lf-clause-ends : goal.returns-then-begins_in_lf-clause-ends
returns-then-begins_in_lf-clause-ends c =
    λ begun none cr.
    split_ends begun c.args.bytes.now none (cr ∙ c.if-after_cr.true) (c.begins_in_lf.ensures.some c.if-begins_in_lf.true)
    (sym c.begins_in_lf.ensures.lf ∙ c.if-begins_in_lf.true)

pub returns-in-Some-clause-ends : goal.returns-in-Some-clause-ends
returns-in-Some-clause-ends c =
    λ begun none cr.
    let found = c.in-Some.ensures in
    message_ends begun c.args.bytes.now c.in-Some.place none
    (λ ends lf.
    elim c.else-after_cr.branch [
      | else-after_cr-via-then-after_cr+else-begins_in_lf w ↦ both_ways _ w.if-begins_in_lf.false (w.begins_in_lf.ensures.lf ∙ lf)
      | else-after_cr-via-else-after_cr w ↦ both_ways _ w.if-after_cr.false (sym cr ∙ ends)
    ])
    (λ k lt is. found.0.before k (omega arith) lt is) found.1

pub returns-in-None-clause-ends : goal.returns-in-None-clause-ends
returns-in-None-clause-ends c =
    λ begun none cr.
    let bytes = c.args.bytes.now in
    crlf_join begun bytes none
    (subst (λ x. has_end Message x ≡ false) (take-length bytes)
    (crlf_before bytes (length bytes) (λ k lt within is. c.in-None.ensures k (omega arith) (omega arith) is)))
    (λ ends lf.
    elim c.else-after_cr.branch [
      | else-after_cr-via-then-after_cr+else-begins_in_lf w ↦ both_ways _ w.if-begins_in_lf.false (w.begins_in_lf.ensures.lf ∙ lf)
      | else-after_cr-via-else-after_cr w ↦ both_ways _ w.if-after_cr.false (sym cr ∙ ends)
    ])
