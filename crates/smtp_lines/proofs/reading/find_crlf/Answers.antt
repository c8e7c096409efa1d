use Rattle.std.proofs.Common.{Some, None, subst, arith}
use Rattle.std.proofs.lemmas.List.{take_rest, length-drop}
use Rattle.bstr.specs.Find.{IsFirstByte, is_byte}
use Rattle.smtp_lines.proofs.EndLemmas.{none_yet, found_by_lf, passed_lf, none_by_lf}
use Rattle.smtp_lines.proofs.reading.find_crlf.Goals as goal
use Rattle.smtp_lines.proofs.reading.find_crlf.Goals.{else-feed-gt0-via-then-feed-gt0+else-bytes-feed-eq13, else-feed-gt0-via-else-feed-gt0}

pub feeds-init : goal.feeds-init
feeds-init c = record { within = omega arith; none = none_yet c.args.bytes.now }

pub returns-then-bytes-feed-eq13 : goal.returns-then-bytes-feed-eq13
returns-then-bytes-feed-eq13 c =
    let found = subst (λ r. IsFirstByte (is_byte 10) r (Some c.in-Some.place)) (take_rest c.args.bytes.now c.feeds.from) c.in-Some.ensures in
    found_by_lf c.args.bytes.now c.feeds.from c.in-Some.place c.feeds.invariant.none found c.if-feed-gt0.true c.if-bytes-feed-eq13.true

pub feeds-smaller : goal.feeds-smaller
feeds-smaller c =
    let found = subst (λ r. IsFirstByte (is_byte 10) r (Some c.in-Some.place)) (take_rest c.args.bytes.now c.feeds.from) c.in-Some.ensures in
    omega (arith, found.0.high, length-drop c.feeds.from c.args.bytes.now)

pub feeds-preserved : goal.feeds-preserved
feeds-preserved c =
    let found = subst (λ r. IsFirstByte (is_byte 10) r (Some c.in-Some.place)) (take_rest c.args.bytes.now c.feeds.from) c.in-Some.ensures in
    record {
      within = omega (arith, found.0.high, length-drop c.feeds.from c.args.bytes.now);
      none = passed_lf c.args.bytes.now c.feeds.from c.in-Some.place c.feeds.invariant.none found (λ some cr.
          elim c.else-feed-gt0.branch [
            | else-feed-gt0-via-then-feed-gt0+else-bytes-feed-eq13 w ↦ w.if-bytes-feed-eq13.false cr
            | else-feed-gt0-via-else-feed-gt0 w ↦ absurd (omega (arith, w.if-feed-gt0.false, some))
          ]);
    }

pub returns : goal.returns
returns c =
    let none = subst (λ r. IsFirstByte (is_byte 10) r None) (take_rest c.args.bytes.now c.feeds.from) c.in_default.ensures in
    λ k low lt here. none_by_lf c.args.bytes.now c.feeds.from c.feeds.invariant.none none k here
