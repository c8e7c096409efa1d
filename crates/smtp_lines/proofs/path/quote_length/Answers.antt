use Rattle.std.proofs.Common.{◌+◌, drop, sym, ◌∙◌, arith}
use Rattle.smtp_lines.specs.PathEnds.{quote_length}
use Rattle.smtp_lines.proofs.PathStepLemmas.{moved, moved_zero, quote_hit, quote_step, quote_skip, quote_over}
use Rattle.smtp_lines.proofs.path.quote_length.Goals as goal
use Rattle.smtp_lines.proofs.path.quote_length.Goals.{then-byte-eq92, else-byte-eq92}

pub loop-place-init : goal.loop-place-init
loop-place-init c = record { within = omega arith; rest = moved_zero (quote_length c.args.text.now) }

pub returns-then-byte-eq34-clause-length : goal.returns-then-byte-eq34-clause-length
returns-then-byte-eq34-clause-length c = sym (quote_hit c.args.text.now c.loop-place.place c.loop-place-test.true c.if-byte-eq34.true) ∙ c.loop-place.invariant.rest

pub loop-place-preserved : goal.loop-place-preserved
loop-place-preserved c =
    let text = c.args.text.now in
    let i = c.loop-place.place in
    record {
      within = elim c.if-byte-eq92.branch [ then-byte-eq92 w ↦ omega arith | else-byte-eq92 w ↦ omega arith ];
      rest = elim c.if-byte-eq92.branch [
        | then-byte-eq92 w ↦
            (λ j. moved (i + w.place-is j) (quote_length (drop (i + w.place-is j) text)))
            ∙ sym (quote_skip text i c.loop-place-test.true c.if-byte-eq34.false w.if-byte-eq92.true) ∙ c.loop-place.invariant.rest
        | else-byte-eq92 w ↦
            (λ j. moved (i + w.place-is j) (quote_length (drop (i + w.place-is j) text)))
            ∙ sym (quote_step text i c.loop-place-test.true c.if-byte-eq34.false w.if-byte-eq92.false) ∙ c.loop-place.invariant.rest
      ];
    }

pub returns-clause-length : goal.returns-clause-length
returns-clause-length c = sym (quote_over c.args.text.now c.loop-place.place c.loop-place-test.false) ∙ c.loop-place.invariant.rest
