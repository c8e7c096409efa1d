use Rattle.std.proofs.Common.{◌+◌, ◌≤◌, length, drop, sym, ap, ◌∙◌, arith}
use Rattle.std.proofs.lemmas.List.{take_rest, length-drop}
use Rattle.smtp_lines.specs.PathEnds.{quote_length, path_end}
use Rattle.smtp_lines.proofs.PathStepLemmas.{moved_zero, path_hit, path_step, path_quote, path_open, path_over}
use Rattle.smtp_lines.proofs.path.path_end.Goals as goal

pub loop-place-init : goal.loop-place-init
loop-place-init c = record { within = omega arith; rest = moved_zero (path_end c.args.text.now 0) }

pub returns-then-byte-eq62-clause-end : goal.returns-then-byte-eq62-clause-end
returns-then-byte-eq62-clause-end c = sym (path_hit c.args.text.now c.loop-place.place c.loop-place-test.true c.if-byte-eq62.true) ∙ c.loop-place.invariant.rest

pub returns-in_err-length-clause-end : goal.returns-in_err-length-clause-end
returns-in_err-length-clause-end c =
    let text = c.args.text.now in
    let i = c.loop-place.place in
    c.from_residual.ensures
    ∙ sym (path_open text i c.loop-place-test.true c.if-byte-eq62.false c.if-byte-eq34.true (c.in_err-length.ensures.length ∙ ap quote_length (take_rest text (i + 1))))
    ∙ c.loop-place.invariant.rest

pub loop-place-preserved-then-byte-eq34 : goal.loop-place-preserved-then-byte-eq34
loop-place-preserved-then-byte-eq34 c =
    let text = c.args.text.now in
    let i = c.loop-place.place in
    let rest = take_rest text (i + 1) in
    let less : c.in_ok-length.length ≤ length (drop (i + 1) text) = omega (arith, c.in_ok-length.ensures.within, ap length rest) in
    record {
      within = omega (arith, less, length-drop (i + 1) text);
      rest =
          sym (path_quote text i c.loop-place-test.true c.in_ok-length.length c.if-byte-eq62.false c.if-byte-eq34.true (c.in_ok-length.ensures.length ∙ ap quote_length rest) less)
          ∙ c.loop-place.invariant.rest;
    }

pub loop-place-preserved : goal.loop-place-preserved
loop-place-preserved c = record {
  within = omega arith;
  rest = sym (path_step c.args.text.now c.loop-place.place c.loop-place-test.true c.if-byte-eq62.false c.if-byte-eq34.false) ∙ c.loop-place.invariant.rest;
}

pub returns-clause-end : goal.returns-clause-end
returns-clause-end c = sym (path_over c.args.text.now c.loop-place.place c.loop-place-test.false) ∙ c.loop-place.invariant.rest
