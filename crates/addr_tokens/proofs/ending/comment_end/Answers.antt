use Rattle.std.proofs.Common.{◌≡◌, ◌+◌, ◌<◌, Bool, true, false, length, drop, sym, ◌∙◌, ap, arith}
use Rattle.addr_tokens.specs.Reader.{past_comment}
use Rattle.addr_tokens.proofs.StepLemmas.{comment_escaped_byte, comment_backslash, comment_opening, comment_closing, comment_byte}
use Rattle.addr_tokens.proofs.ending.comment_end.Goals as goal
use Rattle.addr_tokens.proofs.ending.comment_end.Goals.{then-quoted, else-quoted+then-byte-eq92, else-quoted+else-byte-eq92+then-byte-eq40, else-quoted+else-byte-eq92+else-byte-eq40+then-byte-eq41+else-depth-eq0, else-quoted+else-byte-eq92+else-byte-eq40+else-byte-eq41}

pub bytes-preserved : goal.bytes-preserved
bytes-preserved c =
    let text = c.args.text.now in
    let i = c.bytes.index in
    let within : i < length text = omega arith in
    let before = λ (q : Bool) (is : c.bytes.quoted ≡ q). ap (λ x. past_comment c.bytes.depth x (drop i text)) (sym is) ∙ c.bytes.invariant.rest in
    record {
      rest = elim c.if-quoted.branch [
        | then-quoted w ↦ (λ j. past_comment (w.depth-is j) (w.quoted-is j) (drop (i + 1) text)) ∙ sym (comment_escaped_byte text i within c.bytes.depth) ∙ before true w.if-quoted.true
        | else-quoted+then-byte-eq92 w ↦ (λ j. past_comment (w.depth-is j) (w.quoted-is j) (drop (i + 1) text)) ∙ sym (comment_backslash text i within c.bytes.depth w.if-byte-eq92.true) ∙ before false w.if-quoted.false
        | else-quoted+else-byte-eq92+then-byte-eq40 w ↦ (λ j. past_comment (w.depth-is j) ((w.quoted-is ∙ w.if-quoted.false) j) (drop (i + 1) text)) ∙ sym (comment_opening text i within c.bytes.depth w.if-byte-eq92.false w.if-byte-eq40.true) ∙ before false w.if-quoted.false
        | else-quoted+else-byte-eq92+else-byte-eq40+then-byte-eq41+else-depth-eq0 w ↦ (λ j. past_comment (w.depth-is j) ((w.quoted-is ∙ w.if-quoted.false) j) (drop (i + 1) text)) ∙ sym (comment_closing text i within c.bytes.depth w.if-byte-eq92.false w.if-byte-eq40.false w.if-byte-eq41.true w.if-depth-eq0.false) ∙ before false w.if-quoted.false
        | else-quoted+else-byte-eq92+else-byte-eq40+else-byte-eq41 w ↦ (λ j. past_comment (w.depth-is j) ((w.quoted-is ∙ w.if-quoted.false) j) (drop (i + 1) text)) ∙ sym (comment_byte text i within c.bytes.depth w.if-byte-eq92.false w.if-byte-eq40.false w.if-byte-eq41.false) ∙ before false w.if-quoted.false
      ];
      some = λ _. omega arith;
      depth = elim c.if-quoted.branch [
        | then-quoted w ↦ omega arith
        | else-quoted+then-byte-eq92 w ↦ omega arith
        | else-quoted+else-byte-eq92+then-byte-eq40 w ↦ omega arith
        | else-quoted+else-byte-eq92+else-byte-eq40+then-byte-eq41+else-depth-eq0 w ↦ omega arith
        | else-quoted+else-byte-eq92+else-byte-eq40+else-byte-eq41 w ↦ omega arith
      ];
    }
