use Rattle.std.proofs.Common.{◌+◌, ◌≤◌, ◌<◌, Some, length, take, drop, ap, ◌∙◌, arith}
use Rattle.std.proofs.lemmas.List.{take_rest, length-drop}
use Rattle.smtp_lines.specs.Parameters.{words_of}
use Rattle.smtp_lines.specs.Reading.{word_end, given_by, with_given, with_words}
use Rattle.smtp_lines.proofs.WordLemmas.{parameter_more, parameter_bad, parameter_skip}
use Rattle.smtp_lines.proofs.parameter.parameters_of.Goals as goal
use Rattle.smtp_lines.proofs.parameter.parameters_of.Goals.{then-end-gt0+in_ok-given, else-end-gt0}

pub returns-in_err-given : goal.returns-in_err-given
returns-in_err-given c =
    let text = c.args.text.now in
    let i = c.loop-place.place in
    let end = c.word_end-end.result in
    let rest = take_rest text i in
    c.from_residual.ensures
    ∙ parameter_bad text i c.loop-place-test.true end (c.word_end-end.ensures.end ∙ ap word_end rest) c.loop-place.given c.if-end-gt0.true
    (c.in_err-given.ensures ∙ ap (with_given c.loop-place.given) (c.given_by.ensures ∙ ap (λ t. given_by (take end t)) rest))
    ∙ c.loop-place.invariant.rest

pub loop-place-preserved : goal.loop-place-preserved
loop-place-preserved c =
    let text = c.args.text.now in
    let i = c.loop-place.place in
    let end = c.word_end-end.result in
    let rest = take_rest text i in
    let is = c.word_end-end.ensures.end ∙ ap word_end rest in
    let less : end ≤ length (drop i text) = omega (arith, c.word_end-end.ensures.within, ap length rest) in
    let some : 0 < length (drop i text) = omega (arith, length-drop i text, c.loop-place-test.true) in
    record {
      within = omega (arith, less, length-drop i text, c.loop-place-test.true);
      rest = elim c.if-end-gt0.branch [
        | then-end-gt0+in_ok-given w ↦
            ap (λ g. with_words (words_of (drop (i + (end + 1)) text)) (Some g)) w.given-is
            ∙ parameter_more text i c.loop-place-test.true end is c.loop-place.given _ w.if-end-gt0.true
            (w.in_ok-given.ensures ∙ ap (with_given c.loop-place.given) (w.given_by.ensures ∙ ap (λ t. given_by (take end t)) rest))
            ∙ c.loop-place.invariant.rest
        | else-end-gt0 w ↦
            ap (λ g. with_words (words_of (drop (i + (end + 1)) text)) (Some g)) w.given-is
            ∙ parameter_skip text i c.loop-place-test.true end is c.loop-place.given w.if-end-gt0.false some
            ∙ c.loop-place.invariant.rest
      ];
    }
