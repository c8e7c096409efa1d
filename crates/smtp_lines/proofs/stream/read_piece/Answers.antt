use Rattle.std.proofs.Common.{◌≡◌, ◌++◌, List, Bool, false, true, drop, sym, ap, subst, ◌∙◌}
use Rattle.smtp_lines.specs.declared.line.Line.{Line}
use Rattle.smtp_lines.specs.Reader.{asked_after, received}
use Rattle.smtp_lines.proofs.RunLemmas.{Answering, after_call, after_answer, asked_after-turns}
use Rattle.smtp_lines.proofs.stream.read_piece.Goals as goal

pub answers-init : goal.answers-init
answers-init c =
    let fed = c.in_ok-fresh.ensures in
    let piece = c.args.piece.now in
    let fresh = c.in_ok-fresh.fresh in
    record {
      turns = λ asking. fed.turns ∙ asked_after-turns _ fresh asking;
      all = fed.all;
      answering = λ granted bytes so.
          after_call granted c.args.grants.now c.args.reader.now c.feed.new.self (received so.stream piece) c.args.lines.now.items fresh (bytes ++ piece)
          (fed.stands so.stream so.stands) fed.turns fed.all so.follows so.lines_are (ap (λ b. b ++ piece) so.bytes_are);
    }

pub answers-preserved : goal.answers-preserved
answers-preserved c =
    let more = c.in_ok-fresh-2.ensures in
    let piece = c.args.piece.now in
    let fresh = c.in_ok-fresh-2.fresh in
    let lines = c.answers.lines.items in
    let before = c.answers.fresh in
    let reader = c.answer-rest.new.reader in
    let asking : asked_after false before ≡ true = ap (asked_after false) (sym c.items.ensures) ∙ sym c.last_asks.ensures ∙ c.answers-test.true in
    let appended : c.append.new.self.items ≡ lines ++ before = c.in_ok-append.ensures.items ∙ ap (λ x. lines ++ x) c.into_vec.ensures in
    record {
      turns = λ asks. more.turns ∙ asked_after-turns _ fresh asks;
      all = more.all;
      answering = λ granted bytes so.
          let d = after_answer granted c.answers.rest.now c.answers.reader reader lines before (bytes ++ piece) (c.answers.invariant.answering granted bytes so) asking c.answer-rest.ensures.reader in
          let P : List Bool → List Line → Type 0 = λ r l. Answering granted r c.more.new.self l fresh (bytes ++ piece) in
          subst (λ r. P r c.append.new.self.items) (sym c.answer-rest.ensures.rest)
          (subst (P (drop 1 c.answers.rest.now)) (sym appended)
          (after_call granted (drop 1 c.answers.rest.now) reader c.more.new.self d.stream (lines ++ before) fresh (bytes ++ piece)
          (more.stands d.stream d.stands) more.turns more.all d.follows d.lines_are d.bytes_are));
    }
